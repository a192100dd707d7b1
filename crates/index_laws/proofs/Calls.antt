-- Refusals, the packet without the index, and that every outcome is settled.
-- Assumes nothing.
use Prim.Native.Nat.{ℕ}
use mathlib.Core.Bool.{true, false, true≢false}
use mathlib.Core.List.{List}
use mathlib.Core.Path.{◌≡◌, refl, sym, ap, ◌∙◌, subst}
use native.Mathlib.Omega.{arith}
use Rattle.numbers.proofs.SameLaws.{same_self}
use Rattle.image.specs.Header.{fields_of}
use Rattle.image.proofs.HeaderLaws.{good_header}
use Rattle.packet_state.specs.declared.state.State.{State}
use Rattle.packet_state.specs.Answers.{refusal}
use Rattle.packet_parts.specs.Shell.{refuses}
use Rattle.stream.specs.Packet.{packet_step}
use Rattle.packet_laws.specs.Words.{number_of, Refusal}
use Rattle.packet_laws.proofs.Settling.{told_settled, left_settled}
use Rattle.stream_laws.proofs.Refusals as packet-alone
use Rattle.index.specs.Entries.{fresh_index, is_fresh}
use Rattle.index.specs.Keeping.{short_index, stale_index, Made, Indexed}
use Rattle.index.proofs.KeepLaws.{fresh_stays}
use Rattle.index.proofs.SpaceLaws.{run_is}
use Rattle.index_laws.specs.Demands.{RefusedKeeps, NumberExactly, SameAsPacket, SpaceAgrees, Settled}
use Rattle.index_laws.specs.Words.{DueBeside, up_to_three, index_short, index_stale, as_packet, DueMade, bad_image, too_short, made_well}
use Rattle.index_laws.proofs.Ways.{Way, early, short, stale, goes, way, MakeWay, broken, no_room, well, make_way}

-- a test of an index, as what it tests
pub fresh_of : (s index : List ℕ) → index ≡ fresh_index s index → is_fresh s index ≡ true
unfolding is_fresh
fresh_of s index e = rw (← e) (same_self index)

not_fresh : (s index : List ℕ) → is_fresh s index ≡ false → index ≡ fresh_index s index → ⊥
not_fresh s index f e = true≢false (sym (fresh_of s index e) ∙ f)

module _ (s index : List ℕ) (st : State) (packet buf : List ℕ) where
  refusal_is : (n : ℕ) → Refusal s st buf (refuses st n s buf)
  refusal_is n =
      record { status_zero = refl; no_blocks = refl; no_bytes = refl; no_marked = refl; state_kept = refl; image_kept = refl; buf_kept = refl }

  refused_by : {x : Indexed} → Way s index st packet buf x → (number_of x.left ≡ 0 → ⊥) → Refusal s st buf x.left × (x.index ≡ index)
  refused_by (early n p z l e) f = (refusal_is n, refl)
  refused_by (short p l) f = (refusal_is 9, refl)
  refused_by (stale p l t) f = (refusal_is 10, refl)
  refused_by (goes p l t) f =
      let r = packet-alone.refused_keeps s st packet buf f in
      (r, ap (λ (y : List ℕ). fresh_index y index) r.image_kept ∙ fresh_stays s index t)

  same_by : {x : Indexed} → Way s index st packet buf x → (number_of x.left ≡ short_index → ⊥) → (number_of x.left ≡ stale_index → ⊥)
      → x.left ≡ packet_step s st packet buf
  same_by (early n p z l e) f g = sym e
  same_by (short p l) f g = absurd (f refl)
  same_by (stale p l t) f g = absurd (g refl)
  same_by (goes p l t) f g = refl

  due : {x : Indexed} → Way s index st packet buf x → DueBeside s index st packet buf (number_of x.left)
  due (early n p z l e) = up_to_three n p ((packet-alone.number_exactly s st packet buf n).0 (ap number_of e))
  due (short p l) = index_short p (omega arith)
  due (stale p l t) = index_stale p (omega arith) (not_fresh s index t)
  due (goes p l t) = as_packet _ p l (sym (fresh_stays s index t)) ((packet-alone.number_exactly s st packet buf _).0 refl)

  given_by : {x : Indexed} {n : ℕ} → Way s index st packet buf x → DueBeside s index st packet buf n → number_of x.left ≡ n
  given_by (early m p z l e) (up_to_three n q d) = ap number_of (sym e) ∙ (packet-alone.number_exactly s st packet buf n).1 d
  given_by (early m p z l e) (index_short q r) = absurd (p q)
  given_by (early m p z l e) (index_stale q r t) = absurd (p q)
  given_by (early m p z l e) (as_packet n q r t d) = absurd (p q)
  given_by (short p l) (up_to_three n q d) = absurd (q p)
  given_by (short p l) (index_short q r) = refl
  given_by (short p l) (index_stale q r t) = absurd (omega arith)
  given_by (short p l) (as_packet n q r t d) = absurd (omega arith)
  given_by (stale p l t) (up_to_three n q d) = absurd (q p)
  given_by (stale p l t) (index_short q r) = absurd (omega arith)
  given_by (stale p l t) (index_stale q r u) = refl
  given_by (stale p l t) (as_packet n q r u d) = absurd (not_fresh s index t u)
  given_by (goes p l t) (up_to_three n q d) = absurd (q p)
  given_by (goes p l t) (index_short q r) = absurd (omega arith)
  given_by (goes p l t) (index_stale q r u) = absurd (u (sym (fresh_stays s index t)))
  given_by (goes p l t) (as_packet n q r u d) = (packet-alone.number_exactly s st packet buf n).1 d

module _ (s index : List ℕ) where
  make_refused_by : {x : Made} → MakeWay s index x → (x.answer.number ≡ 0 → ⊥) → (x.answer ≡ refusal x.answer.number) × (x.index ≡ index)
  make_refused_by (broken b) f = (refl, refl)
  make_refused_by (no_room g l) f = (refl, refl)
  make_refused_by (well g l) f = absurd (f refl)

  make_due : {x : Made} → MakeWay s index x → DueMade s index x.answer.number
  make_due (broken b) = bad_image (λ e. true≢false (sym e ∙ b))
  make_due (no_room g l) = too_short g l
  make_due (well g l) = made_well g l

  make_given : {x : Made} {n : ℕ} → MakeWay s index x → DueMade s index n → x.answer.number ≡ n
  make_given (broken b) (bad_image f) = refl
  make_given (broken b) (too_short g l) = absurd (true≢false (sym g ∙ b))
  make_given (broken b) (made_well g l) = absurd (true≢false (sym g ∙ b))
  make_given (no_room g l) (bad_image f) = absurd (f g)
  make_given (no_room g l) (too_short h m) = refl
  make_given (no_room g l) (made_well h m) = absurd (omega arith)
  make_given (well g l) (bad_image f) = absurd (f g)
  make_given (well g l) (too_short h m) = absurd (omega arith)
  make_given (well g l) (made_well h m) = refl

pub refused_keeps : RefusedKeeps
refused_keeps =
    record {
      packet = λ s index st packet buf f. refused_by s index st packet buf (way s index st packet buf) f;
      make = λ s index f. make_refused_by s index (make_way s index) f;
    }

pub number_exactly : NumberExactly
number_exactly =
    record {
      packet = λ s index st packet buf n. (
        (λ e. subst (λ (k : ℕ). DueBeside s index st packet buf k) e (due s index st packet buf (way s index st packet buf))),
        (λ d. given_by s index st packet buf (way s index st packet buf) d),
      );
      make = λ s index n. (
        (λ e. subst (λ (k : ℕ). DueMade s index k) e (make_due s index (make_way s index))),
        (λ d. make_given s index (make_way s index) d),
      );
    }

pub same_as_packet : SameAsPacket
same_as_packet s index st packet buf f g = same_by s index st packet buf (way s index st packet buf) f g

pub space_agrees : SpaceAgrees
space_agrees s index p count good fresh l = run_is s (fields_of s) p index count (good_header s good) fresh l

pub settled : Settled
settled =
    record {
      packet = λ s index st packet buf r r' i i' n n' b b' p q.
          let e = p ∙ sym q in
          let l = left_settled st r r' i i' b b' (ap (λ (x : Indexed). x.left) e) in
          (l.0, l.1, ap (λ (x : Indexed). x.index) e, l.2);
      make = λ s index r r' n n' p q.
          let e = p ∙ sym q in
          (told_settled r r' (ap (λ (x : Made). x.answer) e), ap (λ (x : Made). x.index) e);
    }
