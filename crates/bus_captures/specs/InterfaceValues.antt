-- Interfaces, as the code holds them.
use Rattle.std.specs.Prelude.{ℕ, option_map}
use Rattle.bus_captures.{specs.declared.interfaces.Described.{Described}, specs.declared.units.Units.{Units}, specs.Interfaces.{InterfaceValue}}

abbrev pub units_value : Units → ℕ
units_value u = u.in_second

abbrev pub interface_value : Described → InterfaceValue
interface_value d = record {
  link = d.link;
  most = d.most;
  name = option_map (λ n. n.now) d.name;
  units = option_map units_value d.units;
}
