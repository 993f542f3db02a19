-- The status bytes of responses (DSP0236, "Set Endpoint ID", "Get Endpoint ID", "Allocate Endpoint IDs").
use Rattle.std.specs.Prelude.{ℕ, ◌+◌, ◌*◌, ◌<◌}
use Rattle.mctp_control.{specs.Numbers.{acceptance_number, allocation_number, endpoint_number, eid_type_number}, specs.declared.statuses.SetStatus.{SetStatus}, specs.declared.statuses.EndpointStatus.{EndpointStatus}, specs.declared.statuses.PoolStatus.{PoolStatus}}

-- a byte as four numbers of two bits: bits 7 and 6, 5 and 4, 3 and 2, 1 and 0
pub record Pairs : Type 0 where
  pub high : ℕ
  pub second : ℕ
  pub third : ℕ
  pub low : ℕ

abbrev pub pairs_byte : Pairs → ℕ
pairs_byte p = 64 * p.high + 16 * p.second + 4 * p.third + p.low

pub record ArePairs (p : Pairs) : Type 0 where
  pub high : p.high < 4
  pub second : p.second < 4
  pub third : p.third < 4
  pub low : p.low < 4

-- acceptance in bits 5 and 4, allocation in bits 1 and 0
abbrev pub set_status : SetStatus → Pairs
set_status s =
    record {
      high = s.high.value;
      second = acceptance_number s.acceptance;
      third = s.low.value;
      low = allocation_number s.allocation;
    }

-- endpoint type in bits 5 and 4, EID type in bits 1 and 0
abbrev pub endpoint_status : EndpointStatus → Pairs
endpoint_status s =
    record {
      high = s.high.value;
      second = endpoint_number s.endpoint;
      third = s.low.value;
      low = eid_type_number s.eid;
    }

-- bits 7 to 2, and 1 and 0
pub record PoolStatusValue : Type 0 where
  pub reserved : ℕ
  pub acceptance : ℕ

abbrev pub pool_byte : PoolStatusValue → ℕ
pool_byte p = 4 * p.reserved + p.acceptance

pub record IsPoolStatus (p : PoolStatusValue) : Type 0 where
  pub reserved : p.reserved < 64
  pub acceptance : p.acceptance < 4

abbrev pub pool_status : PoolStatus → PoolStatusValue
pool_status s = record { reserved = s.reserved.value; acceptance = acceptance_number s.acceptance }
