-- Bytes kept between calls of the floppy tape device follow the engine: what an accepted call leaves fits its bytes, and so do the counts of its answer.
-- Assumes nothing.
use mathlib.Core.Path.{◌≡◌, refl, sym}
use mathlib.Core.Bool.{Bool, true, false, not, ◌&&◌}
use mathlib.Core.List.{List, []}
use Prim.Native.Nat.{ℕ, ◌-◌, ◌^◌, ◌<◌, ◌≤◌}
use native.Mathlib.Nat.{mul-le-mul}
use native.Mathlib.Omega.{arith}
use borrow.Author.Tests.{eqb-true, eqb-false, not-false}
use lib.Dec.{eqb, leb}
use lib.ListN.{length}
use Rattle.numbers.specs.Choice.{◌≡ᵇ◌}
use Rattle.numbers.specs.Counts.{count_at}
use Rattle.numbers.proofs.Cases.{either}
use Rattle.numbers.proofs.CountLaws.{count_bound}
use Rattle.image.specs.declared.header.Header.{Header}
use Rattle.image.specs.Header.{fields_of, broken_image}
use Rattle.image.proofs.HeaderLaws.{Sound, good_header, sound}
use Rattle.opcodes.specs.declared.Command.{Command}
use Rattle.opcodes.specs.declared.Command.TheVariants.{Unknown, TestUnitReady, Rewind, RequestSense, Read, Write, WriteFilemarks}
use Rattle.opcodes.specs.declared.Command.TheVariants.{Space, Inquiry, ModeSelect, ModeSense, LoadUnload, Locate, ReadPosition, PreventAllow}
use Rattle.transfer.specs.declared.Moved.{Moved}
use Rattle.transfer.specs.declared.Stop.{Stop}
use Rattle.transfer.specs.declared.Stop.TheVariants.{Full, AtFilemark, AtBadBlock, AtEnd, AtBeginning}
use Rattle.transfer.specs.Reading.{read_from}
use Rattle.transfer.specs.Writing.{block_of, write_from}
use Rattle.transfer.proofs.MarkedLaws.{marked_few}
use Rattle.transfer.proofs.ReadLaws.{read_left}
use Rattle.transfer.proofs.WriteLaws.{lay-left}
use Rattle.packet_state.specs.Answers.{Ending, Good}
use Rattle.packet_state.specs.declared.state.Outcome.{Outcome}
use Rattle.packet_state.specs.declared.state.State.{State}
use Rattle.packet_state.specs.States.{fresh_state, changed_state}
use Rattle.packet_state.proofs.RecordLaws.{speed_most}
use Rattle.packet_parts.specs.declared.requests.Request.{Request}
use Rattle.packet_parts.specs.Answers.{Left, ends}
use Rattle.packet_parts.specs.Replies.{reply_ends}
use Rattle.packet_parts.specs.Requests.{load_bit, request_under}
use Rattle.packet_parts.specs.Shell.{refuses, carried_out}
use Rattle.packet_work.specs.Moving.{moves, read_moves}
use Rattle.packet_work.specs.Settings.{load_work, lock_work}
use Rattle.packet_laws.specs.Words.{number_of, blocks_of, bytes_of, marked_of}
use Rattle.packet_laws.proofs.Endings.{sense_of, ends_is}
use Rattle.packet_laws.proofs.Settling.{told_in, outcome_of}
use Rattle.packet_laws.proofs.Ways.{Way, cut, broken, unruly, short, ends-early, works, way}
use Rattle.packet_record.specs.PacketRecord.{encode_answer}
use Rattle.floppy_parts.specs.declared.tape.Floppy.{Floppy}
use Rattle.floppy_parts.specs.declared.tape.Tape.{Tape}
use Rattle.floppy_parts.specs.Headers.{is_full}
use Rattle.floppy_parts.specs.Replies.{tape_list}
use Rattle.floppy_parts.specs.Requests.{floppy_request}
use Rattle.floppy_parts.specs.Tape.{product, reset_tape, listed_tape}
use Rattle.floppy_parts.specs.Settings.{good_tape_list, selected_tape, loaded_tape, tape_after}
use Rattle.floppy_parts.proofs.FullLaws.{full_image}
use Rattle.floppy.specs.Packet.{floppy_device, floppy_step, mounted}
use Rattle.floppy.specs.Work.{read_ending, read_ends, read_work, write_ending, write_ends, write_work, work_of}
use Rattle.floppy_laws.proofs.Leaving.{accepted_leaves}
use Rattle.floppy_laws.proofs.Refusals.{refused_keeps}
use Rattle.floppy_laws.proofs.Selecting.{Selected, speed-set, speed-wrong, tape-set, tape-wrong, nothing-set, selected}
use Rattle.floppy_record.specs.FloppyRecord.{decode_floppy, encode_floppy}
use Rattle.tapecard.specs.FloppyCalls.{floppy_record, floppy_left, floppy_packet_left, floppy_fresh_call, floppy_change_call, floppy_packet_call}
use Rattle.card_laws.specs.Promises.{Bytes, FitsTape, FloppyFollows}
use Rattle.card_laws.proofs.ByteLaws.{four_back}
use Rattle.card_laws.proofs.CycleLaws.{floppy_kept_by_cycle, decoded_state_fits, decoded_tape_fits}

-- ---- the tape parameters fit

pub reset_fits : (capacity : ℕ) → capacity < 2 ^ 16 → FitsTape (reset_tape capacity)
unfolding reset_tape
reset_fits capacity l =
    let zero : 0 < 2 ^ 8 = omega arith in
    record { bseg = omega arith; segtrk = l; trks = omega arith; density = zero; fill = zero; sector = zero; cylinder = zero; head = zero }

listed_fits : (list : List ℕ) → Bytes list → FitsTape (listed_tape list)
unfolding listed_tape
listed_fits list b =
    record {
      bseg = b 17;
      segtrk = count_bound list 18 2 b;
      trks = count_bound list 20 2 b;
      density = b 14;
      fill = b 16;
      sector = b 22;
      cylinder = b 23;
      head = b 24;
    }

after_fits : (c : Command) (h : Header) (t : Tape) (q : Request) (list : List ℕ) → h.capacity < 2 ^ 16 → FitsTape t → Bytes list →
    FitsTape (tape_after c h t q list)
unfolding tape_after selected_tape loaded_tape
after_fits Unknown h t q list l f b = f
after_fits TestUnitReady h t q list l f b = f
after_fits Rewind h t q list l f b = f
after_fits RequestSense h t q list l f b = f
after_fits Read h t q list l f b = f
after_fits Write h t q list l f b = f
after_fits WriteFilemarks h t q list l f b = f
after_fits Space h t q list l f b = f
after_fits Inquiry h t q list l f b = f
after_fits ModeSelect h t q list l f b =
    either FitsTape ((q.length ≡ᵇ tape_list) && good_tape_list h list) (listed_tape list) t (λ e. listed_fits list b) (λ e. f)
after_fits ModeSense h t q list l f b = f
after_fits LoadUnload h t q list l f b = either FitsTape (load_bit q) (reset_tape h.capacity) t (λ e. reset_fits h.capacity l) (λ e. f)
after_fits Locate h t q list l f b = f
after_fits ReadPosition h t q list l f b = f
after_fits PreventAllow h t q list l f b = f

-- ---- so do the numbers that a packet tells

record Whole (x : Outcome State) : Type 0 where
  information : x.state.sense.information < 2 ^ 32
  blocks : x.answer.blocks < 2 ^ 32
  bytes : x.answer.bytes < 2 ^ 32
  marked : x.answer.marked < 2 ^ 32

ended : (st : State) (e : Ending) (blocks bytes : ℕ) → (sense_of e).information < 2 ^ 32 → blocks < 2 ^ 32 → bytes < 2 ^ 32 → Whole (ends st e blocks bytes)
ended st e blocks bytes i k l = rw ends_is (record { information = i; blocks = k; bytes = l; marked = omega arith })

-- nothing is moved
plain : (st : State) (bytes : ℕ) → bytes < 2 ^ 32 → Whole (ends st Good 0 bytes)
plain st bytes l = ended st Good 0 bytes (omega arith) (omega arith) l

select_whole : {h : Header} {st : State} {t : Tape} {list : List ℕ} {tape : Tape} {asked : ℕ} {out : Outcome State} → asked < 256
    → Selected h st t list asked out tape → Whole out
select_whole l (speed-set e g) = plain _ _ (omega arith)
select_whole l (speed-wrong e) = ended _ _ _ _ (omega arith) (omega arith) (omega arith)
select_whole l (tape-set e x) = plain _ _ (omega arith)
select_whole l (tape-wrong e x) = ended _ _ _ _ (omega arith) (omega arith) (omega arith)
select_whole l (nothing-set e) = plain _ _ (omega arith)

read_residue : (stop : Stop) (left : ℕ) → (sense_of (read_ending stop left)).information ≤ left
unfolding read_ending
read_residue Full left = omega arith
read_residue AtFilemark left = omega arith
read_residue AtBadBlock left = omega arith
read_residue AtEnd left = omega arith
read_residue AtBeginning left = omega arith

write_residue : (left : ℕ) → (sense_of (write_ending left)).information ≤ left
unfolding write_ending
write_residue left = either (λ (e : Ending). (sense_of e).information ≤ left) (leb 1 left) _ _ (λ e. omega arith) (λ e. omega arith)

module _ (s : List ℕ) (h : Header) (st : State) (t : Tape) (q : Request) (buf : List ℕ) (size : h.size ≤ 1024) (asked : q.length < 256) where
  run : (m : Moved) (e : Ending) → m.left ≤ q.length → (sense_of e).information ≤ m.left → Whole (moves st q.length h.size m e)
  run m e l i =
      let few : q.length - m.left ≤ 255 = omega arith in
      let b = mul-le-mul few size in
      ended _ e _ _ (omega arith) (omega arith) (omega arith)

  -- no more are marked than were copied
  reading : (m : Moved) (e : Ending) → m.left ≤ q.length → (sense_of e).information ≤ m.left
      → Whole (read_moves s h.kinds st q.length h.size m e)
  reading m e l i =
      let w = run m e l i in
      let k = marked_few s h.kinds (q.length - m.left) st.position in
      record { information = w.information; blocks = w.blocks; bytes = w.bytes; marked = omega arith }

  work_whole : (c : Command) → Whole (outcome_of (work_of c s h st t q buf))
  unfolding work_of read_work read_ends write_work write_ends load_work lock_work reply_ends
  work_whole Unknown = plain _ _ (omega arith)
  work_whole TestUnitReady = plain _ _ (omega arith)
  work_whole Rewind = plain _ _ (omega arith)
  work_whole RequestSense = plain _ _ (omega arith)
  work_whole Read =
      let m = (read_from s h.size h.kinds h.blocks (product t) q.length 0 st.position buf).moved in
      reading m (read_ending m.stop m.left) (read_left s h.size h.kinds h.blocks (product t) q.length 0 st.position buf)
      (read_residue m.stop m.left)
  work_whole Write =
      let m = (write_from h.size h.kinds h.blocks (product t) buf q.length 0 st.position s).moved in
      run m (write_ending m.left) (lay-left (block_of h.size h.kinds h.blocks buf) h.size (product t) q.length 0 st.position s)
      (write_residue m.left)
  work_whole WriteFilemarks = plain _ _ (omega arith)
  work_whole Space = plain _ _ (omega arith)
  work_whole Inquiry = plain _ _ (omega arith)
  work_whole ModeSelect = select_whole asked (selected h st t buf q.length)
  work_whole ModeSense = plain _ _ (omega arith)
  work_whole LoadUnload = plain _ _ (omega arith)
  work_whole Locate = plain _ _ (omega arith)
  work_whole ReadPosition = plain _ _ (omega arith)
  work_whole PreventAllow = plain _ _ (omega arith)

-- ---- the whole packet

pub full_sound : (s : List ℕ) → is_full s ≡ true → Sound (fields_of s) (length s)
full_sound s e = sound s (fields_of s) (good_header s (full_image s e).0)

abbrev told_of : Left Floppy → Outcome State
told_of x = record { answer = told_in x.answer; state = x.state.shared }

module _ (s : List ℕ) (f : Floppy) (packet buf : List ℕ) where
  whole_by : {x : Left Floppy} → Way floppy_device s f packet buf x → Bytes packet → number_of x ≡ 0 → Whole (told_of x)
  unfolding carried_out floppy_request request_under
  whole_by (cut n) b e = absurd (omega arith)
  whole_by (broken t g) b e = absurd (omega arith)
  whole_by (unruly t g r) b e = absurd (omega arith)
  whole_by (short p u l) b e = absurd (omega arith)
  whole_by (ends-early p x u k) b e = record { information = omega (arith, k.1); blocks = omega arith; bytes = omega arith; marked = omega arith }
  whole_by (works p u l) b e =
      work_whole s (fields_of s) f.shared f.tape (floppy_request packet) buf (full_sound s p.good).size_most (b 4) (floppy_request packet).command

  tape_by : {x : Left Floppy} → Way floppy_device s f packet buf x → Bytes buf → FitsTape f.tape → FitsTape x.state.tape
  unfolding carried_out
  tape_by (cut n) b t = t
  tape_by (broken l g) b t = t
  tape_by (unruly l g r) b t = t
  tape_by (short p u l) b t = t
  tape_by (ends-early p x u k) b t = t
  tape_by (works p u l) b t =
      after_fits (floppy_request packet).command (fields_of s) f.tape (floppy_request packet) buf (omega (arith, (full_sound s p.good).capacity_most)) t b

pub tape_left : (s : List ℕ) (f : Floppy) (packet buf : List ℕ) → Bytes buf → FitsTape f.tape → FitsTape (floppy_step s f packet buf).state.tape
tape_left s f packet buf b t = tape_by s f packet buf (way floppy_device s f packet buf) b t

-- ---- what is left spells the record

module _ (state image packet buf : List ℕ) where
  abbrev x : Left Floppy
  x = floppy_step image (decode_floppy state) packet buf

  told_whole : Bytes packet → number_of x ≡ 0 → Whole (told_of x)
  told_whole b e = whole_by image (decode_floppy state) packet buf (way floppy_device image (decode_floppy state) packet buf) b e

  followed : Bytes state → Bytes packet → Bytes buf → decode_floppy (floppy_record state x.answer x.state) ≡ x.state
  unfolding decode_floppy
  followed a b c =
      either (λ (s : List ℕ). decode_floppy s ≡ x.state) (eqb (number_of x) 0) (encode_floppy x.state) state
      (λ e.
      let n = eqb-true (number_of x) 0 e in
      let w = accepted_leaves image (decode_floppy state) packet buf n in
      let g = sound _ _ w.header in
      let r = w.ruled in
      let v = speed_most _ r.speed in
      floppy_kept_by_cycle x.state (record { position = omega arith; speed = omega arith; information = (told_whole b n).information })
      (tape_left image (decode_floppy state) packet buf c (decoded_tape_fits state a)))
      (λ e. sym (refused_keeps image (decode_floppy state) packet buf (eqb-false (number_of x) 0 e)).state_kept)

  -- no count is cut
  record Counts : Type 0 where
    blocks : blocks_of x < 2 ^ 32
    bytes : bytes_of x < 2 ^ 32
    marked : marked_of x < 2 ^ 32

  counts : Bytes packet → Counts
  counts b = by (eqb (number_of x) 0) refl
    where
      by : (a : Bool) → eqb (number_of x) 0 ≡ a → Counts
      by true e = let w = told_whole b (eqb-true _ _ e) in record { blocks = w.blocks; bytes = w.bytes; marked = w.marked }
      by false e =
          let r = refused_keeps image (decode_floppy state) packet buf (eqb-false _ _ e) in
          record { blocks = omega (arith, r.no_blocks); bytes = omega (arith, r.no_bytes); marked = omega (arith, r.no_marked) }

mount_follows : (state image : List ℕ) (next : State) → next.position < 2 ^ 32 → next.speed < 2 ^ 16
    → decode_floppy (floppy_left state (mounted image (decode_floppy state) next)).state ≡ (mounted image (decode_floppy state) next).state
unfolding floppy_left mounted ends
mount_follows state image next p v =
    either (λ (x : Left Floppy). decode_floppy (floppy_record state x.answer x.state) ≡ x.state) (not (is_full image))
    (refuses (decode_floppy state) broken_image image []) _ (λ e. refl)
    (λ e.
    let g = full_sound image (not-false _ e) in
    floppy_kept_by_cycle _ (record { position = p; speed = v; information = omega arith }) (reset_fits (fields_of image).capacity (omega arith)))

pub floppy_follows : FloppyFollows
unfolding floppy_fresh_call floppy_change_call floppy_packet_call floppy_packet_left decode_floppy
floppy_follows =
    record {
      fresh = λ state image. mount_follows state image fresh_state (omega arith) (omega arith);
      change = λ state image b. mount_follows state image (changed_state (decode_floppy state).shared) (omega arith) (decoded_state_fits state b).speed;
      packet = followed;
    }

pub floppy_blocks_whole : (state image packet buf : List ℕ) → Bytes packet
    → count_at (floppy_packet_call state image packet buf).answer 4 4 ≡ blocks_of (floppy_step image (decode_floppy state) packet buf)
unfolding floppy_packet_call floppy_packet_left encode_answer
floppy_blocks_whole state image packet buf b = four_back _ (counts state image packet buf b).blocks

pub floppy_bytes_whole : (state image packet buf : List ℕ) → Bytes packet
    → count_at (floppy_packet_call state image packet buf).answer 8 4 ≡ bytes_of (floppy_step image (decode_floppy state) packet buf)
unfolding floppy_packet_call floppy_packet_left encode_answer
floppy_bytes_whole state image packet buf b = four_back _ (counts state image packet buf b).bytes

pub floppy_marked_whole : (state image packet buf : List ℕ) → Bytes packet
    → count_at (floppy_packet_call state image packet buf).answer 12 4 ≡ marked_of (floppy_step image (decode_floppy state) packet buf)
unfolding floppy_packet_call floppy_packet_left encode_answer
floppy_marked_whole state image packet buf b = four_back _ (counts state image packet buf b).marked
