-- Refused packets, and packets that begin.
-- Assumes nothing.
use Prim.Native.Nat.{ℕ, ◌≤◌, ◌<◌}
use native.Mathlib.Omega.{arith}
use mathlib.Core.Bool.{false≢true}
use mathlib.Core.List.{List}
use mathlib.Core.Path.{◌≡◌, refl, sym, ap, subst, ◌∙◌}
use borrow.Author.Tests.{eq-eqb, ne_eqb}
use lib.ListN.{length}
use Rattle.image.specs.Header.{fields_of}
use Rattle.packet_state.specs.declared.state.Verdict.{Verdict}
use Rattle.packet_state.specs.declared.state.Verdict.TheVariants.{Works}
use Rattle.packet_parts.specs.Answers.{Left, not_twelve_bytes, short_buffer}
use Rattle.packet_parts.specs.Requests.{packet_length}
use Rattle.packet_parts.specs.Shell.{Device, refuses, carried_out, answers_to}
use Rattle.packet_parts.proofs.VerdictLaws.{found_early, found-short, found-clear, works_clear}
use Rattle.packet_laws.specs.Words.{number_of, Refusal, Due, not_twelve, bad_image, bad_record, too_short, accepted, room_for, Unended, Passes}
use Rattle.packet_laws.specs.Words.{Begins, Working}
use Rattle.packet_laws.specs.Promises.{CutPacket, RefusedKeeps, NumberExactly, BeginsExactly}
use Rattle.packet_laws.proofs.Ways.{FoundFor, found_for, carried, Way, cut, broken, unruly, short, ends-early, works, way, step_passed}

refusal : {R : Type 0} (s : List ℕ) (st : R) (buf : List ℕ) (n : ℕ) → Refusal s st buf (refuses st n s buf)
refusal s st buf n = record { status_zero = refl; no_blocks = refl; no_bytes = refl; no_marked = refl; state_kept = refl; image_kept = refl; buf_kept = refl }

-- ---- packets that begin

module _ {R : Type 0} (d : Device R) (s : List ℕ) (st : R) (packet buf : List ℕ) where
  passed_by : {x : Left R} → Way d s st packet buf x → number_of x ≡ 0 → Passes d s st packet buf
  unfolding carried_out
  passed_by (cut n) e = absurd (omega arith)
  passed_by (broken t b) e = absurd (omega arith)
  passed_by (unruly t g b) e = absurd (omega arith)
  passed_by (short p f l) e = absurd (omega arith)
  passed_by (ends-early p x f k) e = p
  passed_by (works p f l) e = p

  -- what is not refused passes 1, 2 and 3
  pub accepted_passes : number_of (answers_to d s st packet buf) ≡ 0 → Passes d s st packet buf
  accepted_passes = passed_by (way d s st packet buf)

  module _ (b : Begins d s st packet buf) where
    pub begins-passes : Passes d s st packet buf
    begins-passes = accepted_passes b.unrefused

    begins-clear : Unended d s st packet buf × (room_for d s st packet buf ≤ length buf)
    begins-clear = works_clear _ _ _ _ _ refl b.works

    pub begins-unended : Unended d s st packet buf
    begins-unended = begins-clear.0

    pub begins-room : room_for d s st packet buf ≤ length buf
    begins-room = begins-clear.1

    pub begins-work : answers_to d s st packet buf ≡ d.work s (fields_of s) st (d.request packet) buf
    unfolding carried_out
    begins-work = step_passed d s st packet buf begins-passes ∙ rw b.works

  works_by : {v : Verdict} → FoundFor d s st packet buf v → Unended d s st packet buf → number_of (carried d s st packet buf v) ≡ 0 → v ≡ Works
  unfolding carried_out
  works_by (found_early x e k) f n = absurd (false≢true (sym f ∙ e))
  works_by (found-short e l) f n = absurd (omega arith)
  works_by (found-clear e l) f n = refl

  begins_of : number_of (answers_to d s st packet buf) ≡ 0 → Unended d s st packet buf → Begins d s st packet buf
  begins_of n f =
      let e = step_passed d s st packet buf (accepted_passes n) in
      record { unrefused = n; works = works_by (found_for d s st packet buf) f (sym (ap number_of e) ∙ n) }

-- ---- a device whose work refuses nothing

module _ {R : Type 0} (d : Device R) (working : Working d) (s : List ℕ) (st : R) (packet buf : List ℕ) where
  cut_by : {x : Left R} → Way d s st packet buf x → (length packet ≡ packet_length → ⊥) → (number_of x ≡ not_twelve_bytes) × Refusal s st buf x
  cut_by (cut n) f = (refl, refusal s st buf 1)
  cut_by (broken t b) f = absurd (f t)
  cut_by (unruly t g b) f = absurd (f t)
  cut_by (short p e l) f = absurd (f p.twelve)
  cut_by (ends-early p x e k) f = absurd (f p.twelve)
  cut_by (works p e l) f = absurd (f p.twelve)

  refused_by : {x : Left R} → Way d s st packet buf x → (number_of x ≡ 0 → ⊥) → Refusal s st buf x
  unfolding carried_out
  refused_by (cut n) f = refusal s st buf 1
  refused_by (broken t b) f = refusal s st buf 2
  refused_by (unruly t g b) f = refusal s st buf 3
  refused_by (short p e l) f = refusal s st buf 4
  refused_by (ends-early p x e k) f = absurd (f refl)
  refused_by (works p e l) f = absurd (f (working.accepted s st packet buf p l))

  -- the number that is given is due
  due : {x : Left R} → Way d s st packet buf x → Due d s st packet buf (number_of x)
  unfolding carried_out
  due (cut n) = not_twelve n
  due (broken t b) = bad_image t b
  due (unruly t g b) = bad_record t g b
  due (short p e l) = too_short p e l
  due (ends-early p x e k) = accepted p (λ f. absurd (false≢true (sym f ∙ e)))
  due (works p e l) = rw (working.accepted s st packet buf p l) (accepted p (λ f. l))

  -- and the number that is due is given
  short_by : {v : Verdict} → FoundFor d s st packet buf v → Unended d s st packet buf → length buf < room_for d s st packet buf
      → number_of (carried d s st packet buf v) ≡ short_buffer
  unfolding carried_out
  short_by (found_early x e k) f l = absurd (false≢true (sym f ∙ e))
  short_by (found-short e m) f l = refl
  short_by (found-clear e m) f l = absurd (omega arith)

  accepted_by : {v : Verdict} → Passes d s st packet buf → FoundFor d s st packet buf v → (Unended d s st packet buf → room_for d s st packet buf ≤ length buf)
      → number_of (carried d s st packet buf v) ≡ 0
  unfolding carried_out
  accepted_by p (found_early x e k) f = refl
  accepted_by p (found-short e m) f = absurd (omega (arith, f e))
  accepted_by p (found-clear e m) f = working.accepted s st packet buf p m

  given : {n : ℕ} → Due d s st packet buf n → number_of (answers_to d s st packet buf) ≡ n
  unfolding answers_to
  given (not_twelve f) = rw (ne_eqb _ _ f)
  given (bad_image t b) = rw (eq-eqb _ _ t, b)
  given (bad_record t g b) = rw (eq-eqb _ _ t, g, b)
  given (too_short p e l) = ap number_of (step_passed d s st packet buf p) ∙ short_by (found_for d s st packet buf) e l
  given (accepted p f) = ap number_of (step_passed d s st packet buf p) ∙ accepted_by p (found_for d s st packet buf) f

  -- a packet that comes to the work begins
  pub works_begins : Passes d s st packet buf → Unended d s st packet buf → room_for d s st packet buf ≤ length buf → Begins d s st packet buf
  works_begins p e l = begins_of d s st packet buf (given (accepted p (λ u. l))) e

module _ {R : Type 0} (d : Device R) (working : Working d) where
  pub cut_packet : CutPacket d
  cut_packet s st packet buf n = cut_by d working s st packet buf (way d s st packet buf) n

  pub refused_keeps : RefusedKeeps d
  refused_keeps s st packet buf n = refused_by d working s st packet buf (way d s st packet buf) n

  pub number_exactly : NumberExactly d
  number_exactly s st packet buf n = (
    (λ e. subst (λ (k : ℕ). Due d s st packet buf k) e (due d working s st packet buf (way d s st packet buf))),
    (λ x. given d working s st packet buf x),
  )

  pub begins_exactly : BeginsExactly d
  begins_exactly s st packet buf = (
    (λ b. (b.unrefused, begins-unended d s st packet buf b)),
    (λ x. begins_of d s st packet buf x.0 x.1),
  )
