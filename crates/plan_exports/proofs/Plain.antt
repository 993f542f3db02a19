-- Names are spelled by letters, digits, `-`, `.` and `_`.
use Rattle.std.{proofs.Common.{◌≡◌, ℕ, Bool, true, false, List, Option, None, Some, refl, sym, ap, subst, inl, inr}, specs.Prelude.{◌&&◌, IsTrue, option_map, slice_get, string_bytes, unwrap_or, codes}, specs.List.{list_all}}
use Rattle.plan_values.{specs.NameText.{is_name_byte}, specs.declared.name.Name.{Name}, specs.declared.nodes.Bus.{Bus}, specs.declared.nodes.Node.{Node}, specs.declared.plan.Plan.{Plan}}
use Rattle.net_tables.{specs.Routing.{node_at}, specs.Names.{bus_name, node_name}}
use Rattle.plan_exports.{specs.Devices.{AreDevices, IsDeviceOf, device_at}, specs.declared.links.Link.{Link}}

abbrev IsPlain : List ℕ → Type 0
IsPlain text = IsTrue (list_all is_name_byte text)

second : (a b : Bool) → (a && b) ≡ true → b ≡ true
second true b e = e
second false b e = absurd (cc)

name_plain : (name : Name) → IsPlain (string_bytes name.text)
name_plain name = second _ _ name.spelled

pub node_plain : (plan : Plan) (n : ℕ) → IsPlain (node_name plan n)
node_plain plan n = by (node_at plan n)
  where
    by : (node : Option Node) → IsPlain (unwrap_or (option_map (λ (node : Node). string_bytes node.name.text) node) (codes "-"))
    by None = refl
    by (Some node) = name_plain node.name

pub bus_plain : (plan : Plan) (bus : ℕ) → IsPlain (bus_name plan bus)
bus_plain plan bus = by (slice_get plan.buses.items bus)
  where
    by : (bus : Option Bus) → IsPlain (unwrap_or (option_map (λ (bus : Bus). string_bytes bus.name.text) bus) (codes "-"))
    by None = refl
    by (Some bus) = name_plain bus.name

link_plain : (link : Link) → IsPlain link.device.now
link_plain link = second _ _ (second _ _ link.spelled)

device_plain : (plan : Plan) (links : List Link) (bus : ℕ) (device : List ℕ) → IsDeviceOf plan links bus device → IsPlain device
device_plain plan links bus device is =
    elim is [
      | inl linked ↦ subst IsPlain (sym linked.device_is) (link_plain linked.link)
      | inr (_, same) ↦ subst IsPlain (sym same) (bus_plain plan bus)
    ]

pub all_plain : (plan : Plan) (links : List Link) (devices : List (List ℕ)) (bus : ℕ) → AreDevices plan links devices → IsPlain (device_at devices bus)
all_plain plan links devices bus are = by (slice_get devices bus) refl
  where
    by : (device : Option (List ℕ)) → slice_get devices bus ≡ device → IsPlain (unwrap_or device (codes "-"))
    by None at = refl
    by (Some device) at = device_plain plan links bus device (are.each bus device at)
