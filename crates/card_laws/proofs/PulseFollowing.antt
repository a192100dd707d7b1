-- Whatever bytes a call of the pulse drive is given, those it leaves are bytes that spell what the engine's call left.
-- Assumes nothing.
use mathlib.Core.Path.{◌≡◌, sym, ap}
use mathlib.Core.Bool.{Bool, true, not}
use mathlib.Core.List.{List, [], ◌∷◌, ◌++◌}
use mathlib.Core.Logic.{◌≢◌}
use Prim.Native.Nat.{ℕ, zero, suc, ◌+◌, ◌^◌, ◌<◌, ◌≤◌}
use native.Mathlib.Omega.{arith}
use borrow.Author.Tests.{eqb-true, eqb-false, not-false}
use lib.ListN.{drop, length}
use lib.Seq.{get_or-drop}
use Rattle.numbers.specs.Choice.{◌≡ᵇ◌}
use Rattle.numbers.specs.Counts.{count_at}
use Rattle.numbers.proofs.Cases.{either}
use Rattle.pulse_parts.specs.declared.cartridge.Cartridge.{Cartridge}
use Rattle.pulse.specs.declared.drive.Drive.{Drive}
use Rattle.pulse.specs.Calls.{Waited, not_refused, train_call, tick_call, insert_call, remove_call, wait_call}
use Rattle.pulse.specs.Drives.{is_ready, power_on}
use Rattle.pulse.specs.Events.{steps_to}
use Rattle.pulse.specs.Motions.{ticked}
use Rattle.pulse.specs.Rules.{keeps_rules}
use Rattle.pulse.specs.Train.{train_step}
use Rattle.pulse.specs.Trains.{Sent, levels_of, trains_call}
use Rattle.pulse_laws.specs.Runs.{Exactly}
use Rattle.pulse_laws.proofs.Answers.{number_exactly, refused_keeps}
use Rattle.pulse_laws.proofs.Calls.{trains_by, wait_by}
use Rattle.pulse_laws.proofs.Kept.{rules_kept}
use Rattle.pulse_record.specs.PulseRecord.{decode_drive, encode_drive, encode_told, described_cartridge, described_place}
use Rattle.tapecard.specs.PulseCalls.{pulse_left, pulse_power_on, pulse_train, pulse_tick, pulse_insert, pulse_remove, pulse_wait, pulse_trains}
use Rattle.card_laws.specs.Promises.{Bytes, FitsBytes, PulseFollows, StaysBytes}
use Rattle.card_laws.proofs.BytesKept.{encoded_bytes}
use Rattle.card_laws.proofs.ByteLaws.{four_back, weight_most}
use Rattle.card_laws.proofs.CycleLaws.{drive_kept_by_cycle, decoded_drive_fits}
use Rattle.card_laws.proofs.DriveFits.{power_on_fits, train_fits, tick_fits, insert_fits, remove_fits, wait_fits, trains_fits}

-- an accepted call leaves a drive that keeps the rules, a refused one the drive that was read; both fit their bytes
record Sound (state : List ℕ) (number : ℕ) (d : Drive) : Type 0 where
  ruly : number ≡ not_refused → keeps_rules d ≡ true
  kept : number ≢ not_refused → d ≡ decode_drive state
  fits : FitsBytes d

sound : {state : List ℕ} {number : ℕ} {d : Drive} {second : ℕ} {holds : Bool} {third : ℕ} {last : Bool}
    → Exactly number (not (keeps_rules (decode_drive state))) second holds third last
    → (keeps_rules (decode_drive state) ≡ true → keeps_rules d ≡ true) → (number ≢ not_refused → d ≡ decode_drive state) →
    FitsBytes d → Sound state number d
sound e rules kept fits = record { ruly = λ z. rules (not-false _ (e.zero.0 z).0); kept = kept; fits = fits }

module _ (state : List ℕ) (b : Bytes state) where
  abbrev d : Drive
  d = decode_drive state

  f : FitsBytes d
  f = decoded_drive_fits state b

  train_sound : (n : ℕ) → Sound state (train_call d n).number (train_call d n).drive
  train_sound n = sound (number_exactly.train d n) (rules_kept.train d n) (λ k. (refused_keeps.train d n k).1) (train_fits d f n)

  tick_sound : Sound state (tick_call d).number (tick_call d).drive
  tick_sound = sound (number_exactly.tick d) (rules_kept.tick d) (λ k. (refused_keeps.tick d k).1) (tick_fits d f)

  insert_sound : (c : Cartridge) (place : ℕ) → Sound state (insert_call d c place).number (insert_call d c place).drive
  insert_sound c place =
      sound (number_exactly.insert d c place) (rules_kept.insert d c place) (λ k. (refused_keeps.insert d c place k).1) (insert_fits d f c place)

  remove_sound : Sound state (remove_call d).number (remove_call d).drive
  remove_sound = sound (number_exactly.remove d) (rules_kept.remove d) (λ k. (refused_keeps.remove d k).1) (remove_fits d f)

  wait_sound : (limit : ℕ) → Sound state (wait_call d limit).number (wait_call d limit).drive
  wait_sound limit = sound (number_exactly.wait d limit) (rules_kept.wait d limit) (λ k. (refused_keeps.wait d limit k).2) (wait_fits d f limit)

  trains_sound : (counts levels : List ℕ) → Sound state (trains_call d counts levels).step.number (trains_call d counts levels).step.drive
  trains_sound counts levels =
      sound (number_exactly.trains d counts levels) (rules_kept.trains d counts levels)
      (λ k. ap (λ (x : Sent). x.step.drive) (refused_keeps.trains d counts levels k)) (trains_fits d counts levels f)

-- ---- what is left spells the drive

follows : (state : List ℕ) (number : ℕ) (level : Bool) (ticks : ℕ) (d : Drive) → Sound state number d →
    decode_drive (pulse_left state number level ticks d).state ≡ d
unfolding pulse_left
follows state number level ticks d x =
    either (λ s. decode_drive s ≡ d) (number ≡ᵇ not_refused) (encode_drive d) state
    (λ z. drive_kept_by_cycle d (x.ruly (eqb-true number not_refused z)) x.fits)
    (λ z. sym (x.kept (eqb-false number not_refused z)))

pub pulse_follows : PulseFollows
unfolding pulse_power_on pulse_train pulse_tick pulse_insert pulse_remove pulse_wait pulse_trains
pulse_follows =
    record {
      by_power_on = λ vendor rom v r. drive_kept_by_cycle (power_on vendor rom) (rules_kept.by_power_on vendor rom) (power_on_fits vendor rom v r);
      train = λ state n b. follows state _ _ _ _ (train_sound state b n);
      tick = λ state b. follows state _ _ _ _ (tick_sound state b);
      insert = λ state cartridge b. follows state _ _ _ _ (insert_sound state b (described_cartridge cartridge) (described_place cartridge));
      remove = λ state b. follows state _ _ _ _ (remove_sound state b);
      wait = λ state limit b. follows state _ _ _ _ (wait_sound state b limit);
      trains = λ state counts levels b. follows state _ _ _ _ (trains_sound state b counts levels);
    }

-- ---- and what is left are bytes

bytes_left : (state : List ℕ) (number : ℕ) (level : Bool) (ticks : ℕ) (d : Drive) → Bytes state → Sound state number d →
    Bytes (pulse_left state number level ticks d).state
unfolding pulse_left
bytes_left state number level ticks d b x =
    either Bytes (number ≡ᵇ not_refused) (encode_drive d) state (λ z. encoded_bytes d (x.ruly (eqb-true number not_refused z)) x.fits) (λ z. b)

-- a buffer with levels laid over it
levels_bytes : (d : Drive) (ns rest : List ℕ) → Bytes rest → Bytes (levels_of d ns ++ rest)
unfolding levels_of
levels_bytes d [] rest b i = b i
levels_bytes d (n ∷ ns) rest b zero = omega (arith, weight_most (train_step d n).level 1)
levels_bytes d (n ∷ ns) rest b (suc i) = levels_bytes (train_step d n) ns rest b i

trains_levels : (d : Drive) (counts levels : List ℕ) → Bytes levels → Bytes (trains_call d counts levels).levels
trains_levels d counts levels b =
    trains_by (λ (x : Sent). Bytes x.levels) d counts levels (λ p. b) (λ p z. b) (λ p z l. b)
    (λ p z l.
    let k = length (levels_of d counts) in
    levels_bytes d counts (drop k levels) (λ i. rw (get_or-drop k levels i 0) (b (k + i))))

pub stays_bytes : StaysBytes
unfolding pulse_power_on pulse_train pulse_tick pulse_insert pulse_remove pulse_wait pulse_trains
stays_bytes =
    record {
      by_power_on = λ vendor rom v r. encoded_bytes (power_on vendor rom) (rules_kept.by_power_on vendor rom) (power_on_fits vendor rom v r);
      train = λ state n b. bytes_left state _ _ _ _ b (train_sound state b n);
      tick = λ state b. bytes_left state _ _ _ _ b (tick_sound state b);
      insert = λ state cartridge b. bytes_left state _ _ _ _ b (insert_sound state b (described_cartridge cartridge) (described_place cartridge));
      remove = λ state b. bytes_left state _ _ _ _ b (remove_sound state b);
      wait = λ state limit b. bytes_left state _ _ _ _ b (wait_sound state b limit);
      trains = λ state counts levels b. bytes_left state _ _ _ _ b (trains_sound state b counts levels);
      levels = λ state counts levels. trains_levels (decode_drive state) counts levels;
    }

-- ---- the ticks of a wait

steps_most : (limit : ℕ) (d : Drive) → steps_to limit d ≤ limit
unfolding steps_to
steps_most zero d = omega arith
steps_most (suc limit) d =
    either (λ k. k ≤ suc limit) (is_ready d) _ _ (λ e. omega arith) (λ e. omega (arith, steps_most limit (ticked d)))

pub ticks_whole : (state : List ℕ) (limit : ℕ) → limit < 2 ^ 32 →
    count_at (pulse_wait state limit).answer 4 4 ≡ (wait_call (decode_drive state) limit).ticks
unfolding pulse_wait pulse_left encode_told
ticks_whole state limit l =
    let d = decode_drive state in
    let most : (wait_call d limit).ticks ≤ limit = wait_by (λ (w : Waited). w.ticks ≤ limit) d limit (λ p. omega arith) (λ p. steps_most limit d) in
    four_back (wait_call d limit).ticks (omega arith)
