-- The promises of the calls, kept.
-- Assumes nothing.
use mathlib.Core.Path.{◌≡◌, refl, ap, ◌∙◌}
use mathlib.Core.Bool.{Bool, true}
use mathlib.Core.List.{List}
use Prim.Native.Nat.{ℕ}
use borrow.Author.Tests.{ne_eqb}
use Rattle.tapecard.proofs.Settling.{fresh_settled, change_settled, packet_settled, power_on_settled, train_settled, tick_settled}
use Rattle.tapecard.proofs.Settling.{insert_settled, remove_settled, wait_settled, trains_settled}
use Rattle.tapecard.proofs.Settling.{index_make_settled, index_packet_settled, export_settled, import_settled}
use Rattle.tapecard.proofs.Settling.{floppy_fresh_settled, floppy_change_settled, floppy_packet_settled}
use Rattle.packet_state.specs.declared.state.State.{State}
use Rattle.packet_parts.specs.Answers.{Left}
use Rattle.packet_laws.specs.Words.{Refusal}
use Rattle.stream.specs.Packet.{packet_step}
use Rattle.stream_laws.proofs.Refusals.{refused_keeps}
use Rattle.index.specs.Entries.{fresh_index, is_fresh}
use Rattle.index.specs.Keeping.{Made, Indexed}
use Rattle.index.proofs.KeepLaws.{fresh_stays}
use Rattle.floppy_parts.specs.declared.tape.Floppy.{Floppy}
use Rattle.floppy_laws.proofs.Refusals.{refused_keeps as floppy-refused-keeps}
use Rattle.floppy_record.specs.FloppyRecord.{decode_floppy}
use Rattle.tapecard.specs.FloppyCalls.{floppy_card, floppy_left, floppy_packet_left, floppy_fresh_call, floppy_change_call, floppy_packet_call}
use Rattle.pulse.specs.declared.drive.Drive.{Drive}
use Rattle.packet_record.specs.PacketRecord.{decode_state, encode_answer}
use Rattle.tapecard.specs.PacketCalls.{PacketCard, packet_card, packet_left, packet_call}
use Rattle.tapecard.specs.IndexCalls.{index_card, made_left, indexed_left, index_make_call, index_packet_call}
use Rattle.pulse_record.specs.PulseRecord.{encode_told}
use Rattle.tapecard.specs.PulseCalls.{pulse_left, pulse_train, pulse_tick, pulse_insert, pulse_remove, pulse_wait}
use Rattle.card_laws.specs.Promises.{Refused, PacketRefusedUntouched, IndexRefusedUntouched, FloppyRefusedUntouched, UntouchedIfRefused}
use Rattle.card_laws.specs.Promises.{TrainRefusedUntouched, TickRefusedUntouched, InsertRefusedUntouched, RemoveRefusedUntouched}
use Rattle.card_laws.specs.Promises.{WaitRefusedUntouched, CountsWhole, Settled}
use Rattle.card_laws.specs.Exchanges.{ExchangeSettled}
use Rattle.card_laws.proofs.PacketFollowing.{blocks_whole, bytes_whole, marked_whole}
use Rattle.card_laws.proofs.IndexFollowing.{indexed_by, made_by, make_counts, index_counts}
use Rattle.card_laws.proofs.FloppyFollowing.{floppy_blocks_whole, floppy_bytes_whole, floppy_marked_whole}
use Rattle.card_laws.proofs.PulseFollowing.{ticks_whole}

-- ---- refused: untouched

left_untouched : (state image buf : List ℕ) (st : State) (x : Left State) → Refusal image st buf x → (x.answer.number ≡ 0 → ⊥)
    → packet_left state x ≡ packet_card state image buf (packet_left state x).answer
unfolding packet_left
left_untouched state image buf st x r n = rw (ne_eqb _ _ n, r.image_kept, r.buf_kept)

pub packet_refused_untouched : PacketRefusedUntouched
unfolding packet_call packet_left encode_answer
packet_refused_untouched state image packet buf n =
    left_untouched state image buf (decode_state state) _ (refused_keeps image (decode_state state) packet buf n) n

indexed_untouched : (state image index packet buf : List ℕ) → is_fresh image index ≡ true → Refused (packet_call state image packet buf).answer
    → fresh_index (packet_step image (decode_state state) packet buf).image index ≡ index
unfolding packet_call packet_left encode_answer
indexed_untouched state image index packet buf f n =
    ap (λ (s : List ℕ). fresh_index s index) (refused_keeps image (decode_state state) packet buf n).image_kept ∙ fresh_stays image index f

pub index_refused_untouched : IndexRefusedUntouched
unfolding index_make_call made_left index_packet_call indexed_left packet_call packet_left encode_answer
index_refused_untouched =
    record {
      make = λ image index.
          made_by image index (λ (x : Made). Refused (made_left x).answer → x.index ≡ index) (λ n. refl) (λ n. refl) (λ good n. absurd (n refl));
      packet = λ state image index packet buf.
          let kept = packet_refused_untouched state image packet buf in
          indexed_by image index (decode_state state) packet buf
          (λ (x : Indexed). Refused (packet_left state x.left).answer
          → indexed_left state x ≡ index_card (packet_card state image buf (packet_left state x.left).answer) index)
          (λ n. refl) (λ n. refl) (λ m n. ap (λ (c : PacketCard). index_card c index) (kept n))
          (λ f n.
          ap (λ (i : List ℕ). index_card (packet_call state image packet buf) i) (indexed_untouched state image index packet buf f n)
          ∙ ap (λ (c : PacketCard). index_card c index) (kept n));
    }

told_untouched : (state : List ℕ) (o : Left Floppy) → Refused (floppy_left state o).answer → (floppy_left state o).state ≡ state
unfolding floppy_left encode_answer
told_untouched state o n = rw (ne_eqb _ _ n)

floppy_left_untouched : (state image buf : List ℕ) (f : Floppy) (x : Left Floppy) → Refusal image f buf x → (x.answer.number ≡ 0 → ⊥)
    → floppy_packet_left state x ≡ floppy_card state image buf (floppy_packet_left state x).answer
unfolding floppy_packet_left
floppy_left_untouched state image buf f x r n = rw (ne_eqb _ _ n, r.image_kept, r.buf_kept)

pub floppy_refused_untouched : FloppyRefusedUntouched
unfolding floppy_fresh_call floppy_change_call floppy_packet_call floppy_packet_left encode_answer
floppy_refused_untouched =
    record {
      fresh = λ state image. told_untouched state _;
      change = λ state image. told_untouched state _;
      packet = λ state image packet buf n.
          floppy_left_untouched state image buf (decode_floppy state) _ (floppy-refused-keeps image (decode_floppy state) packet buf n) n;
    }

pulse_untouched : (state : List ℕ) (number : ℕ) (level : Bool) (ticks : ℕ) (d : Drive) → UntouchedIfRefused state (pulse_left state number level ticks d)
unfolding pulse_left encode_told
pulse_untouched state number level ticks d n = rw (ne_eqb _ _ n)

pub train_refused_untouched : TrainRefusedUntouched
unfolding pulse_train
train_refused_untouched state pulses = pulse_untouched state _ _ _ _

pub tick_refused_untouched : TickRefusedUntouched
unfolding pulse_tick
tick_refused_untouched state = pulse_untouched state _ _ _ _

pub insert_refused_untouched : InsertRefusedUntouched
unfolding pulse_insert
insert_refused_untouched state cartridge = pulse_untouched state _ _ _ _

pub remove_refused_untouched : RemoveRefusedUntouched
unfolding pulse_remove
remove_refused_untouched state = pulse_untouched state _ _ _ _

pub wait_refused_untouched : WaitRefusedUntouched
unfolding pulse_wait
wait_refused_untouched state limit = pulse_untouched state _ _ _ _

-- ---- counts

pub counts_whole : CountsWhole
counts_whole =
    record {
      blocks = blocks_whole;
      bytes = bytes_whole;
      marked = marked_whole;
      index_make = make_counts;
      index_packet = index_counts;
      floppy_blocks = floppy_blocks_whole;
      floppy_bytes = floppy_bytes_whole;
      floppy_marked = floppy_marked_whole;
      ticks = ticks_whole;
    }

-- ---- one outcome

pub settled : Settled
settled =
    record {
      fresh = fresh_settled;
      change = change_settled;
      packet = packet_settled;
      index_make = index_make_settled;
      index_packet = index_packet_settled;
      floppy_fresh = floppy_fresh_settled;
      floppy_change = floppy_change_settled;
      floppy_packet = floppy_packet_settled;
      by_power_on = power_on_settled;
      train = train_settled;
      tick = tick_settled;
      insert = insert_settled;
      remove = remove_settled;
      wait = wait_settled;
      trains = trains_settled;
    }

pub exchange_settled : ExchangeSettled
exchange_settled = record { exported = export_settled; imported = import_settled }
