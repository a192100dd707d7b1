-- What an accepted packet leaves: one case split over the commands.
-- Assumes nothing.
use Rattle.std.specs.Prelude.{Some, if◌then◌else◌}
use Prim.Native.Nat.{ℕ, ◌+◌, ◌*◌, ◌-◌, ◌≤◌, ◌<◌, min}
use native.Mathlib.Omega.{arith}
use mathlib.Core.Bool.{Bool, true, false}
use mathlib.Core.List.{List, ◌++◌}
use mathlib.Core.Logic.{◌⊎◌, inl, inr, ⊎_elim}
use mathlib.Core.Path.{◌≡◌, refl}
use borrow.Author.Tests.{leb-false, ltb-false}
use lib.Dec.{leb, ltb, eqb}
use lib.ListN.{length, get_or}
use Rattle.numbers.specs.Member.{is_in}
use Rattle.numbers.proofs.Cases.{either, never}
use Rattle.numbers.proofs.OverLaws.{over_length, over_above}
use Rattle.image.specs.declared.header.Header.{Header}
use Rattle.image.specs.Header.{fields_of, header_of}
use Rattle.image.specs.Sameness.{SameElement, Outside}
use Rattle.image.proofs.HeaderLaws.{good_header}
use Rattle.opcodes.specs.declared.Command.{Command}
use Rattle.opcodes.specs.declared.Command.TheVariants.{Unknown, TestUnitReady, Rewind, RequestSense, Read, Write, WriteFilemarks, Space, Inquiry}
use Rattle.opcodes.specs.declared.Command.TheVariants.{ModeSelect, ModeSense, LoadUnload, Locate, ReadPosition, PreventAllow}
use Rattle.transfer.specs.declared.Stop.{Stop}
use Rattle.transfer.specs.declared.Stop.TheVariants.{Full, AtFilemark, AtBadBlock, AtEnd, AtBeginning}
use Rattle.transfer.specs.Reading.{read_from}
use Rattle.transfer.specs.Writing.{block_of, write_from}
use Rattle.transfer.proofs.ReadLaws.{read_run, read_left, read-place, read_length, copied}
use Rattle.transfer.proofs.WriteLaws.{lay_run, lay-left, lay-passed}
use Rattle.transfer.proofs.LaidLaws.{off_kinds, off_blocks, blocks-laid}
use Rattle.transfer.proofs.StopLaws.{lay-within}
use Rattle.packet_state.specs.Answers.{Ending, Good, Check}
use Rattle.packet_state.specs.declared.state.Outcome.{Outcome}
use Rattle.packet_state.specs.declared.state.Sense.{Sense}
use Rattle.packet_state.specs.declared.state.State.{State}
use Rattle.packet_state.specs.Senses.{wrong_list}
use Rattle.packet_state.specs.States.{speeds, highest_key, at_place, with_speed}
use Rattle.packet_parts.specs.declared.requests.Request.{Request}
use Rattle.packet_parts.specs.Answers.{Left, done, ends, ends_before}
use Rattle.packet_parts.specs.Replies.{sense_bytes, device_page, short_list, full_list, mode_header, device_page_bytes, first_of, reply_ends, replied_into}
use Rattle.packet_parts.specs.Requests.{page_code, load_bit, prevent_bit}
use Rattle.packet_parts.specs.Shell.{carried_out}
use Rattle.packet_work.specs.Moving.{read_moves}
use Rattle.packet_work.specs.Replies.{reply_work}
use Rattle.packet_work.specs.Settings.{list_speed, load_work, lock_work}
use Rattle.packet_work.proofs.SettingLaws.{good_speed}
use Rattle.packet_laws.specs.Words.{number_of, blocks_of, bytes_of, gives}
use Rattle.packet_laws.proofs.Endings.{sense_of, ends_is}
use Rattle.packet_laws.proofs.Replies.{first_length}
use Rattle.packet_laws.proofs.Ways.{Way, cut, broken, unruly, short, ends-early, works, way, unended_field}
use Rattle.floppy_parts.specs.declared.tape.Floppy.{Floppy}
use Rattle.floppy_parts.specs.declared.tape.Tape.{Tape}
use Rattle.floppy_parts.specs.Checks.{asked_by}
use Rattle.floppy_parts.specs.Headers.{is_full}
use Rattle.floppy_parts.specs.Replies.{floppy_inquiry, tape_page, tape_list, floppy_mode, tape_mode, mode_bytes, mode_length}
use Rattle.floppy_parts.specs.Requests.{floppy_request, blocks_asked, block_number}
use Rattle.floppy_parts.specs.Rules.{keeps_floppy_rules}
use Rattle.floppy_parts.specs.Tape.{product, reset_tape, listed_tape, floppy_of, beside}
use Rattle.floppy_parts.specs.Settings.{loaded_tape, tape_after}
use Rattle.floppy_parts.proofs.FullLaws.{full_image}
use Rattle.floppy_parts.proofs.RuledLaws.{Ruled, ruled_of, reset_product}
use Rattle.floppy.specs.Packet.{floppy_device, floppy_step}
use Rattle.floppy.specs.Work.{read_ending, read_ends, read_work, write_ending, write_ends, write_work, place_under, work_of}
use Rattle.floppy_laws.specs.Words.{place_of, Untouched}
use Rattle.floppy_laws.proofs.Selecting.{Selected, speed-set, speed-wrong, tape-set, tape-wrong, nothing-set, selected}

-- what a packet under the command c leaves
pub record Leaves (s : List ℕ) (f : Floppy) (c : Command) (buf : List ℕ) (x : Left Floppy) : Type 0 where
  pub header : header_of x.image ≡ Some (fields_of s)
  pub ruled : Ruled (fields_of s) x.state
  pub buf_length : length x.buf ≡ length buf
  pub buf_beyond : (i : ℕ) → bytes_of x ≤ i → get_or x.buf i 0 ≡ get_or buf i 0
  pub no_gift : gives c ≡ false → x.buf ≡ buf
  pub image_length : length x.image ≡ length s
  pub untouched : (m : ℕ) → Untouched (fields_of s) f x m → get_or x.image m 0 ≡ get_or s m 0
  pub others : (i : ℕ) → i < (fields_of s).capacity → Outside (place_of f) (blocks_of x) i → SameElement (fields_of s) s x.image i
  pub stored : (c ≡ Write) ⊎ (x.image ≡ s)

-- ---- keys and places

read_key : (stop : Stop) (left : ℕ) → (sense_of (read_ending stop left)).key ≤ highest_key
unfolding read_ending
read_key Full left = omega arith
read_key AtFilemark left = omega arith
read_key AtBadBlock left = omega arith
read_key AtEnd left = omega arith
read_key AtBeginning left = omega arith

write_key : (left : ℕ) → (sense_of (write_ending left)).key ≤ highest_key
unfolding write_ending
write_key left = either (λ (e : Ending). (sense_of e).key ≤ highest_key) (leb 1 left) _ _ (λ e. omega arith) (λ e. omega arith)

under_within : (end p : ℕ) → place_under end p ≤ end
unfolding place_under
under_within end p = either (λ (x : ℕ). x ≤ end) (ltb end p) 0 p (λ e. omega arith) (λ e. ltb-false end p e)

module _ (s : List ℕ) (f : Floppy) (q : Request) (buf : List ℕ) (full : is_full s ≡ true) (rules : keeps_floppy_rules (fields_of s) f ≡ true) where
  abbrev h : Header
  h = fields_of s

  abbrev st : State
  st = f.shared

  abbrev t : Tape
  t = f.tape

  abbrev p : ℕ
  p = place_of f

  -- the blocks that the device has, and how many are asked for
  abbrev end : ℕ
  end = product f.tape

  abbrev n : ℕ
  n = blocks_asked q

  good : header_of s ≡ Some h
  good = good_header s (full_image s full).0

  kept_rules : Ruled h f
  kept_rules = ruled_of h f rules

  -- ---- commands that keep the image

  stays : (c : Command) (out : Outcome State) (tape : Tape) (new : List ℕ) → Ruled h (floppy_of out.state tape) → length new ≡ length buf
      → ((i : ℕ) → out.answer.bytes ≤ i → get_or new i 0 ≡ get_or buf i 0) → (gives c ≡ false → new ≡ buf) → Leaves s f c buf (beside (done out s new) tape)
  stays c out tape new r l b g =
      record {
        header = good;
        ruled = r;
        buf_length = l;
        buf_beyond = b;
        no_gift = g;
        image_length = refl;
        untouched = λ m a. refl;
        others = λ i a b. record { kind = refl; bytes = refl };
        stored = inr refl;
      }

  ended : (next : State) (tape : Tape) (e : Ending) (blocks bytes : ℕ) → product tape ≤ h.capacity → next.position ≤ product tape
      → is_in next.speed speeds ≡ true → (sense_of e).key ≤ highest_key → Ruled h (floppy_of (ends next e blocks bytes).state tape)
  ended next tape e blocks bytes w p v k = rw ends_is (record { within = w; place = p; speed = v; key = k })

  -- nothing but the record changes
  quiet : (c : Command) (next : State) (tape : Tape) (e : Ending) (bytes : ℕ) → product tape ≤ h.capacity → next.position ≤ product tape
      → is_in next.speed speeds ≡ true → (sense_of e).key ≤ highest_key → Leaves s f c buf (beside (done (ends next e 0 bytes) s buf) tape)
  quiet c next tape e bytes w p v k =
      stays c (ends next e 0 bytes) tape buf (ended next tape e 0 bytes w p v k) refl (λ i l. refl) (λ g. refl)

  -- only the sense is new
  plain : (c : Command) (e : Ending) (bytes : ℕ) → (sense_of e).key ≤ highest_key → Leaves s f c buf (beside (done (ends st e 0 bytes) s buf) t)
  plain c e bytes k = let r = kept_rules in quiet c st t e bytes r.within r.place r.speed k

  pub early_leaves : (c : Command) (x : Sense) → x.key ≤ highest_key → Leaves s f c buf (beside (done (ends_before st x) s buf) t)
  early_leaves c x k =
      let r = kept_rules in
      stays c (ends_before st x) t buf (record { within = r.within; place = r.place; speed = r.speed; key = k }) refl (λ i l. refl) (λ g. refl)

  replies : (c : Command) → gives c ≡ true → (bytes : List ℕ) (asked : ℕ) → min asked (length bytes) ≤ length buf
      → Leaves s f c buf (beside (reply_work bytes asked st s buf) t)
  unfolding reply_ends
  replies c g bytes asked l =
      let r = kept_rules in
      let e = first_length bytes asked in
      stays c (ends st Good 0 (min asked (length bytes))) t (replied_into bytes asked buf)
      (ended st t Good 0 _ r.within r.place r.speed (omega arith)) (over_length buf (first_of bytes asked) 0 (omega arith))
      (λ i m. over_above buf (first_of bytes asked) 0 i (omega arith) (omega (arith, rw ends_is at m)))
      (λ x. never g x)

  mode_length_lem : length (mode_bytes h st t q) ≡ mode_length q
  mode_length_lem = by (eqb (page_code q) device_page) (eqb (page_code q) tape_page)
    where
      by : (a b : Bool)
          → length (if a then mode_header h (full_list - 1) ++ device_page_bytes h st floppy_mode t.bseg else if b then tape_mode h t else
          mode_header h (short_list - 1)) ≡ (if a then full_list else if b then tape_list else short_list)
      by true b = refl
      by false true = refl
      by false false = refl

  selects : {out : Outcome State} {tape : Tape} → Selected h st t buf q.length out tape → Leaves s f ModeSelect buf (beside (done out s buf) tape)
  selects (speed-set e g) =
      let r = kept_rules in
      quiet ModeSelect (with_speed st (list_speed buf)) t Good full_list r.within r.place (good_speed buf g) (omega arith)
  selects (speed-wrong e) = plain ModeSelect (Check wrong_list) 0 (omega arith)
  selects (tape-set e x) =
      quiet ModeSelect (at_place st (place_under (product (listed_tape buf)) p)) (listed_tape buf) Good tape_list x.within
      (under_within (product (listed_tape buf)) p) kept_rules.speed (omega arith)
  selects (tape-wrong e x) = plain ModeSelect (Check wrong_list) 0 (omega arith)
  selects (nothing-set e) = plain ModeSelect Good q.length (omega arith)

  loads : (load : Bool) → Leaves s f LoadUnload buf (beside (done (load_work st load) s buf) (loaded_tape h t load))
  unfolding load_work loaded_tape
  loads true =
      let e = reset_product h.capacity in
      quiet LoadUnload _ (reset_tape h.capacity) Good 0 (omega arith) (omega arith) kept_rules.speed (omega arith)
  loads false = quiet LoadUnload _ t Good 0 kept_rules.within (omega arith) kept_rules.speed (omega arith)

  locks : (prevent : Bool) → Leaves s f PreventAllow buf (beside (done (lock_work st prevent) s buf) t)
  unfolding lock_work
  locks prevent = let r = kept_rules in quiet PreventAllow _ t Good 0 r.within r.place r.speed (omega arith)

  reads : n * h.size ≤ length buf → Leaves s f Read buf (beside (read_work s h end st n buf) t)
  unfolding read_work read_ends
  reads l =
      let r = kept_rules in
      let X = read_from s h.size h.kinds h.blocks end n 0 p buf in
      let less = read_left s h.size h.kinds h.blocks end n 0 p buf in
      let place = read-place s h.size h.kinds h.blocks end n 0 p buf r.place in
      let e = read_ending X.moved.stop X.moved.left in
      let run = read_run s h.size h.kinds h.blocks end n 0 p buf in
      stays Read (read_moves s h.kinds st n h.size X.moved e) t X.buf
      (ended _ t e _ _ r.within place r.speed (read_key X.moved.stop X.moved.left))
      (read_length s h.size h.kinds h.blocks end n 0 p buf (omega arith))
      (λ i m.
      (copied s h.size h.kinds h.blocks end run (omega arith)
      ).beyond (n - X.moved.left) (omega arith) i (omega (arith, rw ends_is at m)))
      (λ x. never refl x)

  -- ---- WRITE

  writes : n * h.size ≤ length buf → Leaves s f Write buf (beside (write_work s h end st n buf) t)
  unfolding write_work write_ends
  writes l =
      let r = kept_rules in
      let X = write_from h.size h.kinds h.blocks end buf n 0 p s in
      let less = lay-left (block_of h.size h.kinds h.blocks buf) h.size end n 0 p s in
      let passed = lay-passed (block_of h.size h.kinds h.blocks buf) h.size end n 0 p s in
      let run = lay_run (block_of h.size h.kinds h.blocks buf) h.size end n 0 p s in
      let to : X.moved.place ≡ p + (n - X.moved.left) = omega arith in
      let w = blocks-laid h end r.within buf run good (omega arith) (omega arith) in
      record {
        header = w.header;
        ruled = ended _ t (write_ending X.moved.left) _ _ r.within (lay-within end _ _ run r.place) r.speed (write_key X.moved.left);
        buf_length = refl;
        buf_beyond = λ i m. refl;
        no_gift = λ e. refl;
        image_length = w.size;
        untouched = λ m o.
            w.apart m (λ i a b. (
              off_kinds h p _ _ m to (rw ends_is at o.not_kind) i a b,
              off_blocks h p _ _ m to (rw ends_is at o.not_block) i a b,
            ));
        others = λ i c o. w.others i c (⊎_elim (λ z. inl z) (λ z. inr (omega arith)) (rw ends_is at o));
        stored = inl refl;
      }

  -- ---- by command

  pub work_leaves : (c : Command) → (asked_by c h end q).field ≡ false → (asked_by c h end q).needed ≤ length buf
      → Leaves s f c buf (beside (work_of c s h st t q buf) (tape_after c h t q buf))
  unfolding work_of asked_by tape_after
  work_leaves Unknown b l = plain Unknown Good 0 (omega arith)
  work_leaves TestUnitReady b l = plain TestUnitReady Good 0 (omega arith)
  work_leaves Rewind b l = plain Rewind Good 0 (omega arith)
  work_leaves RequestSense b l = replies RequestSense refl (sense_bytes st.sense) q.length l
  work_leaves Read b l = reads l
  work_leaves Write b l = writes l
  work_leaves WriteFilemarks b l = plain WriteFilemarks Good 0 (omega arith)
  work_leaves Space b l = plain Space Good 0 (omega arith)
  work_leaves Inquiry b l = replies Inquiry refl floppy_inquiry q.length l
  work_leaves ModeSelect b l = selects (selected h st t buf q.length)
  work_leaves ModeSense b l = replies ModeSense refl (mode_bytes h st t q) q.length (rw mode_length_lem l)
  work_leaves LoadUnload b l = loads (load_bit q)
  work_leaves Locate b l =
      let m = leb-false end (block_number q) b in
      quiet Locate (at_place st (block_number q)) t Good 0 kept_rules.within (omega arith) kept_rules.speed (omega arith)
  work_leaves ReadPosition b l = plain ReadPosition Good 0 (omega arith)
  work_leaves PreventAllow b l = locks (prevent_bit q)

-- every packet that is not refused
module _ (s : List ℕ) (f : Floppy) (packet buf : List ℕ) where
  accepted_by : {x : Left Floppy} → Way floppy_device s f packet buf x → number_of x ≡ 0 → Leaves s f (floppy_request packet).command buf x
  unfolding carried_out
  accepted_by (cut n) e = absurd (omega arith)
  accepted_by (broken t b) e = absurd (omega arith)
  accepted_by (unruly t g b) e = absurd (omega arith)
  accepted_by (short p u l) e = absurd (omega arith)
  accepted_by (ends-early p x u k) e = early_leaves s f (floppy_request packet) buf p.good p.ruly (floppy_request packet).command x (omega (arith, k))
  accepted_by (works p u l) e =
      work_leaves s f (floppy_request packet) buf p.good p.ruly (floppy_request packet).command (unended_field floppy_device s f packet buf u) l

  pub accepted_leaves : number_of (floppy_step s f packet buf) ≡ 0 → Leaves s f (floppy_request packet).command buf (floppy_step s f packet buf)
  accepted_leaves e = accepted_by (way floppy_device s f packet buf) e
