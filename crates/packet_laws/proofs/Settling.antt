-- What a call leaves gives its result back, so two results of one promise are the same.
-- Assumes nothing.
use Prim.Native.Nat.{ℕ}
use mathlib.Core.List.{List}
use mathlib.Core.Path.{◌≡◌, refl, sym, ap, ◌∙◌}
use Rattle.std.specs.Prelude.{Result, Ok, Err}
use Rattle.numbers.specs.declared.refusals.Refusal.{Refusal}
use Rattle.numbers.proofs.RefusalLaws.{by_number, by_reason}
use Rattle.packet_state.specs.declared.state.Outcome.{Outcome}
use Rattle.packet_state.specs.declared.state.Told.{Told}
use Rattle.packet_state.specs.Answers.{Answer, answer_of}
use Rattle.packet_parts.specs.Answers.{Left, left}

-- what an answer tells beside its number
abbrev pub told_in : Answer → Told
told_in a = record { status = a.status; blocks = a.blocks; bytes = a.bytes; marked = a.marked }

told_again : (r : Result Told Refusal) → by_number (answer_of r).number (told_in (answer_of r)) ≡ r
told_again (Ok t) = refl
told_again (Err reason) = by_reason reason (told_in (answer_of (Err reason)))

pub told_settled : (r r' : Result Told Refusal) → answer_of r ≡ answer_of r' → r ≡ r'
told_settled r r' e = sym (told_again r) ∙ ap (λ (a : Answer). by_number a.number (told_in a)) e ∙ told_again r'

-- the outcome in what is left of a device
abbrev pub outcome_of : {R : Type 0} → Left R → Outcome R
outcome_of x = record { answer = told_in x.answer; state = x.state }

module _ {R : Type 0} (st : R) (r r' : Result (Outcome R) Refusal) (image image' buf buf' : List ℕ) where
  left_again : (r : Result (Outcome R) Refusal) (image buf : List ℕ) → by_number (left st r image buf).answer.number (outcome_of (left st r image buf)) ≡ r
  left_again (Ok out) image buf = refl
  left_again (Err reason) image buf = by_reason reason (outcome_of (left st (Err reason) image buf))

  left_image : (r : Result (Outcome R) Refusal) (image buf : List ℕ) → (left st r image buf).image ≡ image
  left_image (Ok out) image buf = refl
  left_image (Err reason) image buf = refl

  left_buf : (r : Result (Outcome R) Refusal) (image buf : List ℕ) → (left st r image buf).buf ≡ buf
  left_buf (Ok out) image buf = refl
  left_buf (Err reason) image buf = refl

  pub left_settled : left st r image buf ≡ left st r' image' buf' → (r ≡ r') × (image ≡ image') × (buf ≡ buf')
  left_settled e = (
    sym (left_again r image buf) ∙ ap (λ (x : Left R). by_number x.answer.number (outcome_of x)) e ∙ left_again r' image' buf',
    sym (left_image r image buf) ∙ ap (λ (x : Left R). x.image) e ∙ left_image r' image' buf',
    sym (left_buf r image buf) ∙ ap (λ (x : Left R). x.buf) e ∙ left_buf r' image' buf',
  )
