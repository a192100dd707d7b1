-- The ways that the two calls can go: one case split each, cited by every theorem.
-- Assumes nothing.
use Rattle.std.specs.Prelude.{if◌then◌else◌}
use Prim.Native.Nat.{ℕ, ◌≤◌, ◌<◌}
use mathlib.Core.Bool.{Bool, true, false, not, true≢false}
use mathlib.Core.List.{List}
use mathlib.Core.Path.{◌≡◌, refl, sym, ◌∙◌}
use native.Mathlib.Omega.{arith}
use borrow.Author.Tests.{eqb-true, eqb-false, ltb-true, ltb-false}
use lib.Dec.{eqb, ltb}
use lib.ListN.{length}
use Rattle.image.specs.Header.{fields_of, keeps_header_rules, broken_image}
use Rattle.packet_state.specs.declared.state.State.{State}
use Rattle.packet_state.specs.States.{keeps_record_rules}
use Rattle.packet_state.specs.Answers.{refusal}
use Rattle.packet_parts.specs.Answers.{answered, good_status, not_twelve_bytes, unruly_record}
use Rattle.packet_parts.specs.Requests.{packet_length}
use Rattle.packet_parts.specs.Shell.{refuses, answers_to}
use Rattle.stream.specs.Packet.{packet_step}
use Rattle.index.specs.Entries.{filemarks_of, index_length, fresh_index, is_fresh}
use Rattle.index.specs.Keeping.{short_index, stale_index, Made, made, makes, Indexed, indexed, afresh, indexed_step}
use Rattle.index_laws.specs.Words.{PassesThree}

-- ---- a packet

module _ (s index : List ℕ) (st : State) (packet buf : List ℕ) where
  pub data Way : Indexed → Type 0 where
    early : (n : ℕ) → (PassesThree s index st packet buf → ⊥) → (n ≡ 0 → ⊥) → (n < short_index) → packet_step s st packet buf ≡ refuses st n s buf
        → Way (indexed (refuses st n s buf) index)
    short : PassesThree s index st packet buf → length index < index_length s → Way (indexed (refuses st short_index s buf) index)
    stale : PassesThree s index st packet buf → index_length s ≤ length index → is_fresh s index ≡ false → Way (indexed (refuses st stale_index s buf) index)
    goes : PassesThree s index st packet buf → index_length s ≤ length index → is_fresh s index ≡ true → Way (afresh index (packet_step s st packet buf))

  -- the order of the checks, by their tests
  abbrev chain : Bool → Bool → Bool → Bool → Bool → Indexed
  chain a b c d e =
      if not a then indexed (refuses st not_twelve_bytes s buf) index else
      if not b then indexed (refuses st broken_image s buf) index else
      if not c then indexed (refuses st unruly_record s buf) index else
      if d then indexed (refuses st short_index s buf) index else
      if not e then indexed (refuses st stale_index s buf) index else
      afresh index (packet_step s st packet buf)

  by_tests : (a b c d e : Bool) → eqb (length packet) packet_length ≡ a → keeps_header_rules s ≡ b → keeps_record_rules (fields_of s).recorded st ≡ c
      → ltb (length index) (index_length s) ≡ d → is_fresh s index ≡ e → Way (chain a b c d e)
  unfolding answers_to
  by_tests false b c d e p q r t u = early not_twelve_bytes (λ x. eqb-false _ _ p x.twelve) (λ x. omega arith) (omega arith) (rw p refl)
  by_tests true false c d e p q r t u =
      early broken_image (λ x. true≢false (sym x.good ∙ q)) (λ x. omega arith) (omega arith) (rw (p, q) refl)
  by_tests true true false d e p q r t u =
      early unruly_record (λ x. true≢false (sym x.ruly ∙ r)) (λ x. omega arith) (omega arith) (rw (p, q, r) refl)
  by_tests true true true true e p q r t u = short (record { twelve = eqb-true _ _ p; good = q; ruly = r }) (ltb-true _ _ t)
  by_tests true true true false false p q r t u = stale (record { twelve = eqb-true _ _ p; good = q; ruly = r }) (ltb-false _ _ t) u
  by_tests true true true false true p q r t u = goes (record { twelve = eqb-true _ _ p; good = q; ruly = r }) (ltb-false _ _ t) u

  pub way : Way (indexed_step s index st packet buf)
  unfolding indexed_step
  way = by_tests _ _ _ _ _ refl refl refl refl refl

-- ---- an index made

module _ (s index : List ℕ) where
  pub data MakeWay : Made → Type 0 where
    broken : keeps_header_rules s ≡ false → MakeWay (made (refusal broken_image) index)
    no_room : keeps_header_rules s ≡ true → length index < index_length s → MakeWay (made (refusal short_index) index)
    well : keeps_header_rules s ≡ true → index_length s ≤ length index
        → MakeWay (made (answered good_status (length (filemarks_of s)) (index_length s)) (fresh_index s index))

  abbrev make_chain : Bool → Bool → Made
  make_chain a b =
      if not a then made (refusal broken_image) index else
      if b then made (refusal short_index) index else
      made (answered good_status (length (filemarks_of s)) (index_length s)) (fresh_index s index)

  make_tests : (a b : Bool) → keeps_header_rules s ≡ a → ltb (length index) (index_length s) ≡ b → MakeWay (make_chain a b)
  make_tests false b p q = broken p
  make_tests true true p q = no_room p (ltb-true _ _ q)
  make_tests true false p q = well p (ltb-false _ _ q)

  pub make_way : MakeWay (makes s index)
  unfolding makes
  make_way = make_tests _ _ refl refl
