-- A list of trains, on the bytes of a record: it is its trains sent by the single call, and the recovery may go by it.
-- Assumes nothing.
use mathlib.Core.Path.{◌≡◌, refl, sym, ap, ◌∙◌}
use mathlib.Core.Bool.{true, false}
use mathlib.Core.List.{List, [], ◌∷◌, map, map-map}
use mathlib.Core.Logic.{◌≢◌}
use Prim.Native.Nat.{ℕ}
use borrow.Author.Tests.{eq-eqb, ne_eqb, not-false}
use lib.ListN.{get_or}
use Rattle.numbers.specs.Member.{is_in}
use Rattle.numbers.proofs.MemberLaws.{not_in_parts}
use Rattle.pulse.specs.Calls.{Step}
use Rattle.pulse.specs.declared.drive.Drive.{Drive}
use Rattle.pulse.specs.Rules.{keeps_rules}
use Rattle.pulse.specs.Trains.{Sent}
use Rattle.pulse_laws.specs.Runs.{after_trains, answers, recovery_trains}
use Rattle.pulse_laws.proofs.Answers.{number_exactly, refused_keeps}
use Rattle.pulse_laws.proofs.Kept.{rules_kept}
use Rattle.pulse_laws.proofs.Lists.{list_is_singles, recovers_by_list}
use Rattle.pulse_record.specs.PulseRecord.{decode_drive, encode_drive, encode_told}
use Rattle.tapecard.specs.PulseCalls.{pulse_left, pulse_train, pulse_trains}
use Rattle.card_laws.specs.Lists.{CardListIsSingles, CardRecoversByList, ListRefusedUntouched}
use Rattle.card_laws.specs.Promises.{Bytes}
use Rattle.card_laws.specs.Sessions.{answers_on, ticks_on, told, trains_on}
use Rattle.card_laws.proofs.PulseFollowing.{pulse_follows, stays_bytes}
use Rattle.card_laws.proofs.Recovering.{singles_follow, ticks_bytes, ticks_follow, trains_follow}

pub list_refused_untouched : ListRefusedUntouched
unfolding pulse_trains pulse_left encode_told
list_refused_untouched state counts levels n =
    (rw (ne_eqb _ _ n), ap (λ (x : Sent). x.levels) (refused_keeps.trains (decode_drive state) counts levels n))

-- ---- singly

-- the last of some single trains, none of them refused, writes the record of the drive after them
written : (state : List ℕ) (n : ℕ) (ns : List ℕ) → Bytes state → keeps_rules (decode_drive state) ≡ true → is_in 0 (n ∷ ns) ≡ false
    → trains_on state (n ∷ ns) ≡ encode_drive (after_trains (decode_drive state) (n ∷ ns))
unfolding trains_on after_trains pulse_train pulse_left
written state n [] b k e =
    let d = decode_drive state in
    let taken = (number_exactly.train d n).zero.1 (rw k refl, (not_in_parts 0 n [] e).0, refl) in
    rw (eq-eqb _ _ taken) refl
written state n (m ∷ ms) b k e =
    let d = decode_drive state in
    let next = pulse_follows.train state n b in
    let kept : keeps_rules (decode_drive (pulse_train state n).state) ≡ true = rw next (rules_kept.train d n k) in
    written (pulse_train state n).state m ms (stays_bytes.train state n b) kept (not_in_parts 0 n (m ∷ ms) e).1
    ∙ ap (λ (x : Drive). encode_drive (after_trains x (m ∷ ms))) next

written_all : (state ns : List ℕ) → Bytes state → keeps_rules (decode_drive state) ≡ true → is_in 0 ns ≡ false → ns ≢ []
    → trains_on state ns ≡ encode_drive (after_trains (decode_drive state) ns)
written_all state [] b k e some = absurd (some refl)
written_all state (n ∷ ns) b k e some = written state n ns b k e

-- byte j of each of the single answers
answered_by : (state counts : List ℕ) (j : ℕ) → Bytes state
    → map (λ (a : List ℕ). get_or a j 0) (answers_on state counts) ≡ map (λ (s : Step). get_or (told s) j 0) (answers (decode_drive state) counts)
answered_by state counts j b =
    let byte : List ℕ → ℕ = λ a. get_or a j 0 in
    ap (map byte) (singles_follow counts state b) ∙ map-map byte told (answers (decode_drive state) counts)

pub card_list_is_singles : CardListIsSingles
unfolding pulse_trains pulse_left encode_told
card_list_is_singles state counts levels b taken =
    let d = decode_drive state in
    let s = list_is_singles d counts levels taken in
    let follows = trains_follow counts state b in
    let held = (number_exactly.trains d counts levels).zero.0 taken in
    let all = written_all state counts b (not-false (keeps_rules d) held.0) held.1 in
    record {
      answered = answered_by state counts 0 b ∙ s.answered;
      drive = pulse_follows.trains state counts levels b ∙ s.drive ∙ sym follows;
      bytes = λ some. rw (eq-eqb _ _ taken) (ap encode_drive s.drive ∙ sym (all some));
      answer = rw (taken, s.level, follows) refl;
      levels = s.levels ∙ sym (answered_by state counts 1 b);
    }

pub card_recovers_by_list : CardRecoversByList
unfolding pulse_trains pulse_left encode_told
card_recovers_by_list state k levels b rules inside l room =
    let rested = ticks_on k state in
    let follows = ticks_follow k state b in
    let x = recovers_by_list.rested (decode_drive state) k levels rules inside l room in
    record {
      answered = rw follows x.answered;
      back = rw (pulse_follows.trains rested recovery_trains levels (ticks_bytes k state b), follows) x.back;
      named = rw follows x.named;
    }
