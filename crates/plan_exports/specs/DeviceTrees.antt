-- The source of a device tree with the buses of a Linux node.
use Rattle.std.{specs.Prelude.{◌≡◌, ℕ, ◌==◌, List, [], ◌++◌, codes, if◌then◌else◌, length, Option, Some}, specs.Fmt.{decimal}, specs.List.{flat_map}}
use Rattle.plan_values.specs.declared.plan.Plan.{Plan}
use Rattle.net_tables.specs.Names.{address_on, bus_name, node_name}
use Rattle.plan_exports.{specs.CSources.{identifier}, specs.Devices.{AreDevices, device_at}, specs.LinuxScripts.{buses_at, link_address}, specs.Neighbors.{bus_numbers}, specs.Words.{hex_list}, specs.declared.links.Link.{Link}}

abbrev pub tree_head : Plan → ℕ → List ℕ
tree_head plan n = codes "/* The buses of the node " ++ (node_name plan n
    ++ (codes ". Made by mctpplan export devicetree.\n   These words are those of Linux 6.7. */\n"
    ++ codes "#include <dt-bindings/i2c/i2c.h>\n"))

-- an I2C controller that has an address of its own for MCTP, with these digits
abbrev pub i2c_part : (label name digits : List ℕ) → List ℕ
i2c_part label name digits = codes "\n&" ++ (label ++ (codes " { /* bus " ++ (name
    ++ (codes " */\n\tmctp-controller;\n\n\tmctp@" ++ (digits
    ++ (codes " {\n\t\tcompatible = \"mctp-i2c-controller\";\n\t\treg = <(0x" ++ (digits
    ++ codes " | I2C_OWN_SLAVE_ADDRESS)>;\n\t};\n};\n")))))))

-- of an address Linux has the seven bits there
abbrev pub addressed_part : (label name address : List ℕ) → List ℕ
addressed_part label name address = i2c_part label name (hex_list [] (link_address 1 address))

abbrev pub i3c_part : (label name : List ℕ) → List ℕ
i3c_part label name =
    codes "\n&" ++ (label ++ (codes " { /* bus " ++ (name ++ codes " */\n\tmctp-controller;\n};\n")))

abbrev pub unaddressed_part : List ℕ → List ℕ
unaddressed_part name = codes "\n/* bus " ++ (name ++ codes ": no address in the plan */\n")

abbrev pub foreign_part : List ℕ → ℕ → List ℕ
foreign_part name binding = codes "\n/* bus " ++ (name ++ (codes ": its binding "
    ++ (decimal binding ++ codes " has no words in a device tree */\n")))

abbrev pub smbus_part : (label name address : List ℕ) → List ℕ
smbus_part label name address =
    if length address == 0 then unaddressed_part name else addressed_part label name address

-- what stands there for a bus, by its binding: SMBus and I2C (1), I3C (6), or another
abbrev pub part_of : (label name address : List ℕ) → ℕ → List ℕ
part_of label name address binding = if binding == 1 then smbus_part label name address
    else (if binding == 6 then i3c_part label name else foreign_part name binding)

abbrev pub labelled_part : Plan → (label : List ℕ) → ℕ → (address : List ℕ) → ℕ → List ℕ
labelled_part plan label bus address binding = part_of (identifier label) (bus_name plan bus) address binding

-- `on` is the bus
abbrev pub part_at : Plan → ℕ → (label : List ℕ) → ℕ → Option ℕ → List ℕ
part_at plan n label bus on =
    labelled_part plan label bus (address_on plan n on) (bus_numbers plan on).0

abbrev pub bus_part : Plan → ℕ → List (List ℕ) → ℕ → List ℕ
bus_part plan n labels bus = part_at plan n (device_at labels bus) bus (Some bus)

abbrev pub bus_parts : Plan → ℕ → List (List ℕ) → List ℕ → List ℕ
bus_parts plan n labels buses = flat_map (bus_part plan n labels) buses

abbrev pub tree_text : Plan → ℕ → List (List ℕ) → List ℕ
tree_text plan n labels = tree_head plan n ++ bus_parts plan n labels (buses_at plan n)

-- The text is that of n, with the labels that the links give.
pub record IsDeviceTree (plan : Plan) (n : ℕ) (links : List Link) (text : List ℕ) : Type 0 where
  pub labels : List (List ℕ)
  pub linked : AreDevices plan links labels
  pub text_is : text ≡ tree_text plan n labels
