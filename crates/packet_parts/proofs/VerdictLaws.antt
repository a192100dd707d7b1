-- What is found before the work: one case split, for anything that is asked.
-- Assumes nothing.
use Prim.Native.Nat.{ℕ, ◌≤◌, ◌<◌}
use native.Mathlib.Omega.{arith}
use mathlib.Core.Bool.{Bool, true, false, ◌||◌}
use mathlib.Core.Path.{◌≡◌, refl, sym, ◌∙◌}
use borrow.Author.Tests.{ltb-true, ltb-false}
use lib.Dec.{ltb}
use Rattle.packet_state.specs.declared.state.Attention.{Attention}
use Rattle.packet_state.specs.declared.state.Attention.TheVariants.{Nothing, MediumChanged, Reset}
use Rattle.packet_state.specs.declared.state.Sense.{Sense}
use Rattle.packet_state.specs.declared.state.State.{State}
use Rattle.packet_state.specs.declared.state.Verdict.{Verdict}
use Rattle.packet_state.specs.declared.state.Verdict.TheVariants.{Refuses, Ends, Works}
use Rattle.packet_state.specs.Senses.{unit_attention, invalid_opcode, invalid_field, wrong_list_length, removal_prevented, not_loaded, write_protected}
use Rattle.packet_parts.specs.declared.verdicts.Asked.{Asked}
use Rattle.numbers.specs.declared.refusals.Refusal.TheVariants.{ShortBuffer}
use Rattle.packet_parts.specs.Verdicts.{found_first, verdict_by, ends_early}

-- the sense of what ends a packet before its work: of its keys 7, write protected, is the highest, and it has no information
abbrev pub Early : Sense → Type 0
Early x = (x.key ≤ 7) × (x.information ≤ 0)

module _ (a : Asked) (protected : Bool) (st : State) (room : ℕ) where
  pub data Found : Verdict → Type 0 where
    found_early : (x : Sense) → ends_early a protected st ≡ true → Early x → Found (Ends x)
    found-short : ends_early a protected st ≡ false → room < a.needed → Found (Refuses ShortBuffer)
    found-clear : ends_early a protected st ≡ false → a.needed ≤ room → Found Works

  attention_early : (x : Attention) → Early (unit_attention x)
  attention_early Nothing = omega arith
  attention_early MediumChanged = omega arith
  attention_early Reset = omega arith

  found_by_lem : (t u f l d m k g : Bool) → ends_early a protected st ≡ (t || u || f || l || d || m || k) → ltb room a.needed ≡ g
      → Found (found_first st.attention t u f l d m k g)
  unfolding found_first
  found_by_lem true u f l d m k g p e = found_early (unit_attention st.attention) p (attention_early st.attention)
  found_by_lem false true f l d m k g p e = found_early invalid_opcode p (omega arith)
  found_by_lem false false true l d m k g p e = found_early invalid_field p (omega arith)
  found_by_lem false false false true d m k g p e = found_early wrong_list_length p (omega arith)
  found_by_lem false false false false true m k g p e = found_early removal_prevented p (omega arith)
  found_by_lem false false false false false true k g p e = found_early not_loaded p (omega arith)
  found_by_lem false false false false false false true g p e = found_early write_protected p (omega arith)
  found_by_lem false false false false false false false true p e = found-short p (ltb-true room _ e)
  found_by_lem false false false false false false false false p e = found-clear p (ltb-false room _ e)

  pub found : Found (verdict_by a protected st room)
  unfolding verdict_by ends_early
  found = found_by_lem _ _ _ _ _ _ _ _ refl refl

  clear_by : {v : Verdict} → Found v → v ≡ Works → (ends_early a protected st ≡ false) × (a.needed ≤ room)
  clear_by (found_early x e m) p = let z : ◌≡◌ {A = ℕ} 0 1 = cc in absurd (omega arith)
  clear_by (found-short e l) p = let z : ◌≡◌ {A = ℕ} 0 1 = cc in absurd (omega arith)
  clear_by (found-clear e l) p = (e, l)

  -- what comes to its work was ended by nothing before it, and has the room that it needs
  pub works_clear : (v : Verdict) → v ≡ verdict_by a protected st room → v ≡ Works → (ends_early a protected st ≡ false) × (a.needed ≤ room)
  works_clear v p e = clear_by found (sym p ∙ e)
