-- What the fresh record and the cartridge change leave is accepted.
-- Assumes nothing.
use native.Mathlib.Omega.{arith}
use Rattle.packet_state.specs.States.{fresh_state, changed_state}
use Rattle.packet_state.proofs.RecordLaws.{of_ruly, fresh_speed}
use Rattle.stream_laws.specs.Demands.{StartsGood}

pub starts_good : StartsGood
starts_good =
    record {
      fresh = λ end. of_ruly end fresh_state (record { place = omega arith; speed = fresh_speed; key = omega arith });
      changed = λ end st e. of_ruly end (changed_state st) (record { place = omega arith; speed = e; key = omega arith });
    }
