-- The ways of a packet of any device: what its first three refusals look at, and what follows them.
-- Assumes nothing.
use mathlib.Core.Path.{◌≡◌, refl, sym, ◌∙◌}
use mathlib.Core.Bool.{Bool, true, false, not}
use mathlib.Core.List.{List}
use Prim.Native.Nat.{ℕ, ◌≤◌}
use borrow.Author.Tests.{eq-eqb, ne_eqb, eqb-true}
use lib.ListN.{length}
use Rattle.std.specs.Prelude.{Some, None, Ok, Err, if◌then◌else◌}
use Rattle.numbers.specs.declared.refusals.Refusal.{Refusal}
use Rattle.numbers.specs.declared.refusals.Refusal.TheVariants.{NotTwelveBytes, BrokenImage, UnrulyRecord}
use Rattle.image.specs.declared.header.Header.{Header}
use Rattle.image.specs.Header.{fields_of}
use Rattle.image.proofs.HeaderLaws.{sound, picked, broken_by}
use Rattle.packet_state.specs.declared.state.Outcome.{Outcome}
use Rattle.packet_state.specs.declared.state.Sense.{Sense}
use Rattle.packet_state.specs.declared.state.Verdict.{Verdict}
use Rattle.packet_state.specs.declared.state.Verdict.TheVariants.{Refuses, Ends, Works}
use Rattle.packet_parts.specs.declared.requests.Request.{Request}
use Rattle.packet_parts.specs.Answers.{Left, left}
use Rattle.packet_parts.specs.Shell.{Device, Begun, accepted_header, begun, found_by, ended_early, carried_out, decided, answers_to, refuses}

module _ {R : Type 0} (d : Device R) (s : List ℕ) (st : R) (packet : List ℕ) where
  -- ---- refusals 1 to 3

  pub not_twelve : (length packet ≡ 12 → ⊥) → Err NotTwelveBytes ≡ begun d s st packet
  unfolding begun
  not_twelve n = rw (ne_eqb _ _ n)

  pub no_header : length packet ≡ 12 → None ≡ accepted_header d s → Err BrokenImage ≡ begun d s st packet
  unfolding begun
  no_header twelve e = rw (eq-eqb _ _ twelve, broken_by (d.accepts s) (fields_of s) (sym e))

  module _ (twelve : length packet ≡ 12) (h : Header) (taken : Some h ≡ accepted_header d s) where
    good : (d.accepts s ≡ true) × (fields_of s ≡ h)
    good = picked (d.accepts s) (fields_of s) h (sym taken)

    pub no_record : d.keeps_rules h st ≡ false → Err UnrulyRecord ≡ begun d s st packet
    unfolding begun
    no_record e = rw (eq-eqb _ _ twelve, good.0, good.1, e)

    pub went_on : d.keeps_rules h st ≡ true → Ok h ≡ begun d s st packet
    unfolding begun
    went_on e = rw (eq-eqb _ _ twelve, good.0, good.1, e)

  -- ---- what follows them

  module _ (buf : List ℕ) where
    refused_by : (t a k : Bool) (h : Header) (w : Left R) (r : Refusal)
        → (if not t then Err NotTwelveBytes else if not a then Err BrokenImage else if not k then Err UnrulyRecord else Ok h) ≡ Err r
        → left st (Err r) s buf ≡ (if not t then refuses st 1 s buf else if not a then refuses st 2 s buf else if not k then refuses st 3 s buf else w)
    refused_by false a k h w r e = let p : NotTwelveBytes ≡ r = cc in rw (← p)
    refused_by true false k h w r e = let p : BrokenImage ≡ r = cc in rw (← p)
    refused_by true true false h w r e = let p : UnrulyRecord ≡ r = cc in rw (← p)
    refused_by true true true h w r e = absurd cc

    pub answer_refused : (r : Refusal) → begun d s st packet ≡ Err r → left st (Err r) s buf ≡ answers_to d s st packet buf
    unfolding begun answers_to
    answer_refused r e = refused_by _ _ _ _ _ r e

    decided_by : (t a k : Bool) (h : Header) (w : Left R)
        → (if not t then Err NotTwelveBytes else if not a then Err BrokenImage else if not k then Err UnrulyRecord else Ok (fields_of s)) ≡ Ok h
        → (t ≡ true)
        × ((fields_of s ≡ h) × (w ≡ (if not t then refuses st 1 s buf else if not a then refuses st 2 s buf else if not k then refuses st 3 s buf else w)))
    decided_by false a k h w e = absurd cc
    decided_by true false k h w e = absurd cc
    decided_by true true false h w e = absurd cc
    decided_by true true true h w e = (refl, ((cc), refl))

    pub twelve_of : (h : Header) → Ok h ≡ begun d s st packet → length packet ≡ 12
    unfolding begun
    twelve_of h e = eqb-true (length packet) 12 (decided_by _ _ _ h (refuses st 0 s buf) (sym e)).0

    pub answer_decided : (h : Header) (x : Left R) → Ok h ≡ begun d s st packet → x ≡ decided d s h st (d.request packet) buf
        → x ≡ answers_to d s st packet buf
    unfolding begun answers_to
    answer_decided h x e p = let z = decided_by _ _ _ h (decided d s (fields_of s) st (d.request packet) buf) (sym e) in (p ∙ rw (← z.1.0)) ∙ z.1.1

-- ---- what is found before the work

module _ {R : Type 0} (d : Device R) (s : List ℕ) (h : Header) (st : R) (q : Request) (buf : List ℕ) (v : Verdict)
    (found : v ≡ found_by d h st q (length buf)) where
  pub was_refused : (r : Refusal) → v ≡ Refuses r → left st (Err r) s buf ≡ decided d s h st q buf
  unfolding decided carried_out
  was_refused r e = rw (← found, e)

  pub was_ended : (x : Sense) → v ≡ Ends x → (out : Outcome R) → out ≡ ended_early d st x → left st (Ok out) s buf ≡ decided d s h st q buf
  unfolding decided carried_out
  was_ended x e out t = rw (← found, e, t)

  pub was_worked : v ≡ Works → (x : Left R) → x ≡ d.work s h st q buf → x ≡ decided d s h st q buf
  unfolding decided carried_out
  was_worked e x t = rw (← found, e) t

pub capacity_bound : {R : Type 0} (d : Device R) (s : List ℕ) (h : Header) (st : R) → Begun d s h st → h.capacity ≤ 65535
capacity_bound d s h st b = (sound s h b.header).capacity_most

pub ruleset begun_ways = (not_twelve, no_header, no_record, went_on)

pub ruleset decided_ways = (capacity_bound, was_refused, was_ended, was_worked)

pub ruleset answer_ways = (twelve_of, answer_refused, answer_decided)
