-- What an engine leaves, as the bytes that a call leaves of it.
-- Assumes nothing.
use mathlib.Core.Path.{◌≡◌, refl, ap, ◌∙◌}
use mathlib.Core.List.{List, []}
use Prim.Native.Nat.{ℕ}
use Rattle.std.specs.Prelude.{Result, Ok, Err}
use Rattle.numbers.specs.declared.refusals.Refusal.{Refusal}
use Rattle.numbers.proofs.RefusalLaws.{not_zero}
use Rattle.packet_state.specs.declared.state.Outcome.{Outcome}
use Rattle.packet_state.specs.declared.state.State.{State}
use Rattle.packet_state.specs.declared.state.Told.{Told}
use Rattle.packet_state.specs.Answers.{answer_of}
use Rattle.packet_state.specs.States.{fresh_state, changed_state}
use Rattle.packet_parts.specs.Answers.{left}
use Rattle.stream.specs.Packet.{packet_step}
use Rattle.index.specs.Keeping.{made, makes, indexed, indexed_step}
use Rattle.exchange.specs.Exporting.{exported, exports}
use Rattle.exchange.specs.Importing.{imports}
use Rattle.floppy_parts.specs.declared.tape.Floppy.{Floppy}
use Rattle.floppy.specs.Packet.{fresh_floppy, changed_floppy, floppy_step}
use Rattle.floppy_record.specs.FloppyRecord.{decode_floppy, encode_floppy}
use Rattle.pulse.specs.declared.calls.Waited.{Waited as Passed}
use Rattle.pulse.specs.declared.drive.Drive.{Drive}
use Rattle.pulse.specs.Drives.{power_on}
use Rattle.pulse.specs.Calls.{told, told_wait, train_call, tick_call, insert_call, remove_call, wait_call}
use Rattle.pulse.specs.Trains.{sent, trains_call}
use Rattle.pulse_parts.specs.declared.cartridge.Cartridge.{Cartridge}
use Rattle.packet_record.specs.PacketRecord.{decode_state, encode_state, encode_answer}
use Rattle.tapecard.specs.Leaving.{Kept, kept, kept_of, waited_card, at_once}
use Rattle.tapecard.specs.PacketCalls.{packet_card, packet_fresh, packet_change, packet_left, packet_call}
use Rattle.tapecard.specs.IndexCalls.{index_told, index_card, made_left, indexed_left, index_make_call, index_packet_call}
use Rattle.tapecard.specs.ExchangeCalls.{export_told, export_left, export_call, import_call}
use Rattle.tapecard.specs.FloppyCalls.{floppy_card, floppy_told, floppy_left, floppy_packet_left}
use Rattle.tapecard.specs.FloppyCalls.{floppy_fresh_call, floppy_change_call, floppy_packet_call}
use Rattle.pulse_record.specs.PulseRecord.{decode_drive, encode_drive, described_cartridge, described_place}
use Rattle.tapecard.specs.PulseCalls.{PulseCard, list_card, pulse_left, step_left, waited_left}
use Rattle.tapecard.specs.PulseCalls.{pulse_power_on, pulse_train, pulse_trains, pulse_tick, pulse_insert, pulse_remove, pulse_wait}

-- ---- the packet drive, with an index and without, and an import

pub fresh_left : (new : List ℕ) (st : State) → st ≡ fresh_state → new ≡ encode_state st → new ≡ packet_fresh
unfolding packet_fresh
fresh_left new st q e = rw (e, q)

pub change_left : (s new : List ℕ) (old st : State) → old ≡ decode_state s → st ≡ changed_state old → new ≡ encode_state st →
    new ≡ packet_change s
unfolding packet_change
change_left s new old st q p e = rw (e, p, q)

packet_bytes : (s : List ℕ) (st : State) (r : Result (Outcome State) Refusal) (image buf : List ℕ)
    → packet_card (kept_of encode_state s r).state image buf (kept_of encode_state s r).answer ≡ packet_left s (left st r image buf)
unfolding packet_left
packet_bytes s st (Ok out) image buf = refl
packet_bytes s st (Err r) image buf = rw (not_zero r)

module _ (s : List ℕ) (st : State) (r : Result (Outcome State) Refusal) (s' image' buf' answer : List ℕ)
    (q : st ≡ decode_state s) (l : kept s' answer ≡ kept_of encode_state s r) where
  bytes : packet_card s' image' buf' answer ≡ packet_left s (left st r image' buf')
  bytes = ap (λ (k : Kept). packet_card k.state image' buf' k.answer) l ∙ packet_bytes s st r image' buf'

  pub packet_call_left : (image packet buf : List ℕ) → left st r image' buf' ≡ packet_step image st packet buf
      → packet_card s' image' buf' answer ≡ packet_call s image packet buf
  unfolding packet_call
  packet_call_left image packet buf e = rw (← q, ← e) bytes

  pub index_call_left : (image packet buf index index' : List ℕ) → indexed (left st r image' buf') index' ≡ indexed_step image index st packet buf
      → index_card (packet_card s' image' buf' answer) index' ≡ index_packet_call s image index packet buf
  unfolding index_packet_call indexed_left
  index_call_left image packet buf index index' e = rw (← q, ← e) (ap (λ x. index_card x index') bytes)

  pub import_call_left : (image : List ℕ) → left st r image' buf' ≡ imports image st buf' → packet_card s' image' buf' answer ≡ import_call s image buf'
  unfolding import_call
  import_call_left image e = rw (← q, ← e) bytes

pub index_make_left : (image index index' answer : List ℕ) (r : Result Told Refusal) → made (answer_of r) index' ≡ makes image index
    → answer ≡ encode_answer (answer_of r) → index_told index' answer ≡ index_make_call image index
unfolding index_make_call made_left
index_make_left image index index' answer r e w = rw (← e) (ap (λ x. index_told index' x) w)

pub export_call_left : (image file file' answer : List ℕ) (r : Result Told Refusal) → exported (answer_of r) file' ≡ exports image file
    → answer ≡ encode_answer (answer_of r) → export_told file' answer ≡ export_call image file
unfolding export_call export_left
export_call_left image file file' answer r e w = rw (← e) (ap (λ x. export_told file' x) w)

-- ---- the floppy tape device

floppy_bytes : (s : List ℕ) (f : Floppy) (r : Result (Outcome Floppy) Refusal) (image buf : List ℕ)
    → floppy_card (kept_of encode_floppy s r).state image buf (kept_of encode_floppy s r).answer ≡ floppy_packet_left s (left f r image buf)
unfolding floppy_packet_left
floppy_bytes s f (Ok out) image buf = refl
floppy_bytes s f (Err r) image buf = rw (not_zero r)

floppy_two : (s : List ℕ) (f : Floppy) (r : Result (Outcome Floppy) Refusal) (image buf : List ℕ)
    → floppy_told (kept_of encode_floppy s r).state (kept_of encode_floppy s r).answer ≡ floppy_left s (left f r image buf)
unfolding floppy_left
floppy_two s f (Ok out) image buf = refl
floppy_two s f (Err r) image buf = rw (not_zero r)

module _ (s image : List ℕ) (f : Floppy) (r : Result (Outcome Floppy) Refusal) (s' answer : List ℕ)
    (q : f ≡ decode_floppy s) (l : kept s' answer ≡ kept_of encode_floppy s r) where
  two : (image buf : List ℕ) → floppy_told s' answer ≡ floppy_left s (left f r image buf)
  two image buf = ap (λ (k : Kept). floppy_told k.state k.answer) l ∙ floppy_two s f r image buf

  pub floppy_fresh_left : left f r image [] ≡ fresh_floppy image f → floppy_told s' answer ≡ floppy_fresh_call s image
  unfolding floppy_fresh_call
  floppy_fresh_left e = rw (← q, ← e) (two image [])

  pub floppy_change_left : left f r image [] ≡ changed_floppy image f → floppy_told s' answer ≡ floppy_change_call s image
  unfolding floppy_change_call
  floppy_change_left e = rw (← q, ← e) (two image [])

  pub floppy_call_left : (packet buf image' buf' : List ℕ) → left f r image' buf' ≡ floppy_step image f packet buf
      → floppy_card s' image' buf' answer ≡ floppy_packet_call s image packet buf
  unfolding floppy_packet_call
  floppy_call_left packet buf image' buf' e =
      rw (← q, ← e) (ap (λ (k : Kept). floppy_card k.state image' buf' k.answer) l ∙ floppy_bytes s f r image' buf')

-- ---- the pulse drive

pub power_left : (new : List ℕ) (d : Drive) (vendor rom : ℕ) → d ≡ power_on vendor rom → new ≡ encode_drive d → new ≡ pulse_power_on vendor rom
unfolding pulse_power_on
power_left new d vendor rom q e = rw (e, q)

waited_bytes : (s : List ℕ) (d : Drive) (r : Result Passed Refusal) → waited_card s r ≡ waited_left s (told_wait d r)
unfolding pulse_left
waited_bytes s d (Ok w) = refl
waited_bytes s d (Err r) = rw (not_zero r)

step_bytes : (s : List ℕ) (d : Drive) (r : Result Drive Refusal) → waited_card s (at_once r) ≡ step_left s (told d r)
unfolding pulse_left
step_bytes s d (Ok next) = refl
step_bytes s d (Err r) = rw (not_zero r)

module _ (s : List ℕ) (d : Drive) (r : Result Drive Refusal) (w : Result Passed Refusal) (card : PulseCard) (q : d ≡ decode_drive s)
    (once : w ≡ at_once r) (l : card ≡ waited_card s w) where
  step : card ≡ step_left s (told d r)
  step = rw (l, once) (step_bytes s d r)

  pub train_left : (n : ℕ) → told d r ≡ train_call d n → card ≡ pulse_train s n
  unfolding pulse_train
  train_left n e = rw (← q, ← e) step

  pub trains_left : (counts levels levels' : List ℕ) → sent (told d r) levels' ≡ trains_call d counts levels
      → list_card card levels' ≡ pulse_trains s counts levels
  unfolding pulse_trains
  trains_left counts levels levels' e = rw (← q, ← e) (ap (λ c. list_card c levels') step)

  pub tick_left : told d r ≡ tick_call d → card ≡ pulse_tick s
  unfolding pulse_tick
  tick_left e = rw (← q, ← e) step

  pub insert_left : (given : List ℕ) (cart : Cartridge) (place : ℕ) → cart ≡ described_cartridge given → place ≡ described_place given
      → told d r ≡ insert_call d cart place → card ≡ pulse_insert s given
  unfolding pulse_insert
  insert_left given cart place c p e = rw (← q, ← c, ← p, ← e) step

  pub remove_left : told d r ≡ remove_call d → card ≡ pulse_remove s
  unfolding pulse_remove
  remove_left e = rw (← q, ← e) step

pub wait_left : (s : List ℕ) (d : Drive) (r : Result Passed Refusal) (card : PulseCard) (limit : ℕ) → d ≡ decode_drive s → told_wait d r ≡ wait_call d limit
    → card ≡ waited_card s r → card ≡ pulse_wait s limit
unfolding pulse_wait
wait_left s d r card limit q e l = rw (← q, ← e, l) (waited_bytes s d r)
