-- What a walker of the code stands for.
use Rattle.std.specs.Prelude.{map, option_map}
use Rattle.pdr_repository.{specs.Dues.{request_of}, specs.Walkers.{WalkState}, specs.declared.walker.Walker.{Walker}}

abbrev pub state_of : Walker → WalkState
state_of w = record {
  count = w.count;
  max_records = w.max_records;
  max_bytes = w.max_bytes;
  records = map (λ v. v.items) w.collected.records.items;
  under_way = w.under_way.items;
  due = option_map (request_of w.count) w.due;
  waiting = option_map (λ id. id.value) w.waiting;
  failed = w.failed;
  taken = w.taken;
}
