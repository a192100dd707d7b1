-- What an accepted packet leaves: one case split over the commands.
-- Assumes nothing.
use Rattle.std.specs.Prelude.{Some, if◌then◌else◌}
use Prim.Native.Nat.{ℕ, ◌+◌, ◌*◌, ◌-◌, ◌^◌, ◌≤◌, ◌<◌, min}
use native.Mathlib.Nat.{le_refl, mul-le-mul_left}
use native.Mathlib.Omega.{arith}
use mathlib.Core.Bool.{Bool, true, false, not, ◌&&◌, false≢true}
use mathlib.Core.List.{List, ◌++◌}
use mathlib.Core.Logic.{inl}
use mathlib.Core.Path.{◌≡◌, refl, sym, ◌∙◌}
use borrow.Author.Tests.{leb-true, ltb-false, eqb-true, not-false}
use lib.Dec.{leb, ltb, eqb}
use lib.ListN.{length, get_or}
use Rattle.numbers.specs.Member.{is_in}
use Rattle.numbers.proofs.Cases.{either}
use Rattle.numbers.proofs.OverLaws.{over_length, over_above}
use Rattle.image.specs.declared.header.Header.{Header}
use Rattle.image.specs.Header.{fields_of, keeps_header_rules, header_of, with_recorded}
use Rattle.image.specs.Sameness.{SameElement, Outside}
use Rattle.image.proofs.HeaderLaws.{good_header, sound}
use Rattle.image.proofs.StoreLaws.{OffKind, recorded_after, after_stored, after_reached, record_none, record_length, record_apart, record_header}
use Rattle.image.proofs.StoreLaws.{record_kind, record_bytes_lem}
use Rattle.opcodes.specs.declared.Command.{Command}
use Rattle.opcodes.specs.declared.Command.TheVariants.{Unknown, TestUnitReady, Rewind, RequestSense, Read, Write, WriteFilemarks, Space, Inquiry}
use Rattle.opcodes.specs.declared.Command.TheVariants.{ModeSelect, ModeSense, LoadUnload, Locate, ReadPosition, PreventAllow}
use Rattle.transfer.specs.declared.Moved.{Moved}
use Rattle.transfer.specs.Reading.{read_from}
use Rattle.transfer.specs.Spacing.{blocks_on, blocks_back, marks_on, marks_back}
use Rattle.transfer.specs.Writing.{Writing, block_of, write_from, mark_of, mark_from}
use Rattle.transfer.proofs.ReadLaws.{read_run, read_left, read-place, read_length, copied, few_moved}
use Rattle.transfer.proofs.MarkedLaws.{marked_few}
use Rattle.transfer.proofs.WriteLaws.{lay_run, lay-left, lay-passed}
use Rattle.transfer.proofs.LaidLaws.{Laid, Apart, off_kinds, off_blocks, marks_laid, blocks-laid}
use Rattle.transfer.proofs.SpaceLaws.{blocks-on-ended, blocks-on-place, blocks-back-ended, blocks-back-place, marks-on-ended, marks_on_place}
use Rattle.transfer.proofs.SpaceLaws.{marks-back-ended, marks-back-place}
use Rattle.packet_state.specs.Answers.{Ending, Good, Check}
use Rattle.packet_state.specs.declared.state.Outcome.{Outcome}
use Rattle.packet_state.specs.declared.state.Sense.{Sense}
use Rattle.packet_state.specs.declared.state.State.{State}
use Rattle.packet_parts.specs.declared.requests.Request.{Request}
use Rattle.packet_parts.specs.Answers.{Left, done, ends, ends_before, with_marked}
use Rattle.stream_parts.specs.Checks.{asked_by}
use Rattle.packet_parts.specs.Replies.{sense_bytes, short_list, full_list, mode_header, first_of, reply_ends, replied_into}
use Rattle.packet_parts.specs.Requests.{load_bit, prevent_bit}
use Rattle.packet_parts.specs.Shell.{carried_out}
use Rattle.packet_work.specs.Moving.{read_moves}
use Rattle.packet_work.specs.Replies.{reply_work}
use Rattle.packet_work.specs.Settings.{list_speed, good_list, speed_work, load_work, lock_work}
use Rattle.packet_work.proofs.SettingLaws.{good_speed}
use Rattle.stream_parts.specs.Replies.{position_length, stream_inquiry, mode_bytes, position_bytes, mode_length, has_page, mode_page}
use Rattle.stream.specs.Packet.{stream_device, packet_step}
use Rattle.stream_parts.specs.Requests.{request_of, space_code, is_back, over_blocks, to_end_of_data, magnitude}
use Rattle.packet_state.specs.Senses.{wrong_list, beyond_data}
use Rattle.packet_state.specs.States.{speeds, keeps_record_rules, at_place, with_speed}
use Rattle.packet_state.proofs.RecordLaws.{Ruly, ruly_of}
use Rattle.stream.specs.Work.{ending_of, read_ends, read_work, write_ending, write_ends, write_work, mark_work, space_run, space_work}
use Rattle.stream.specs.Work.{select_work, locate_work, work_of}
use Rattle.packet_laws.specs.Words.{number_of, blocks_of, bytes_of, gives}
use Rattle.packet_laws.proofs.Endings.{sense_of, ends_is}
use Rattle.packet_laws.proofs.Replies.{first_length}
use Rattle.packet_laws.proofs.Settling.{outcome_of}
use Rattle.packet_laws.proofs.Ways.{Way, cut, broken, unruly, short, ends-early, works, way}
use Rattle.stream_laws.specs.Words.{stores_on, stores, Untouched}
use Rattle.stream_laws.proofs.Endings.{Modest, ending_modest, write_modest}

-- the outcome of a packet that is not refused: the record it leaves is in rule, and its counts go by what was asked for
pub record Accepted (h : Header) (q : Request) (x : Outcome State) : Type 0 where
  pub ruly : Ruly h.recorded x.state
  pub information : x.state.sense.information ≤ q.count
  pub blocks : x.answer.blocks ≤ h.capacity
  pub bytes : x.answer.bytes ≤ x.answer.blocks * h.size + (q.length + position_length)
  pub marked : x.answer.marked ≤ x.answer.blocks

pub record Leaves (s : List ℕ) (st : State) (q : Request) (buf : List ℕ) (storing giving : Bool) (x : Left State) : Type 0 where
  pub unrefused : number_of x ≡ 0
  pub u : ℕ
  pub header : header_of x.image ≡ Some (with_recorded (fields_of s) u)
  pub reached : st.position ≤ u
  pub new_u : storing ≡ true → 1 ≤ blocks_of x → u ≡ x.state.position
  pub accepted : Accepted (with_recorded (fields_of s) u) q (outcome_of x)
  pub image_length : length x.image ≡ length s
  pub buf_length : length x.buf ≡ length buf
  pub buf_beyond : (i : ℕ) → bytes_of x ≤ i → get_or x.buf i 0 ≡ get_or buf i 0
  pub no_gift : giving ≡ false → x.buf ≡ buf
  pub untouched : (m : ℕ) → Untouched (fields_of s) st x m → get_or x.image m 0 ≡ get_or s m 0
  pub below : (j : ℕ) → j < st.position → SameElement (fields_of s) s x.image j
  pub none_stored : blocks_of x ≡ 0 → x.image ≡ s
  pub no_store : storing ≡ false → x.image ≡ s

module _ (s : List ℕ) (st : State) (q : Request) (buf : List ℕ) (good : keeps_header_rules s ≡ true)
    (rules : keeps_record_rules (fields_of s).recorded st ≡ true) where
  abbrev h : Header
  h = fields_of s

  abbrev p : ℕ
  p = st.position

  -- how many elements are asked for
  abbrev n : ℕ
  n = q.count

  kept_rules : Ruly h.recorded st
  kept_rules = ruly_of h.recorded st rules

  -- ---- commands that keep the image

  stays : (storing giving : Bool) (out : Outcome State) (new : List ℕ) → Accepted h q out → length new ≡ length buf
      → ((i : ℕ) → out.answer.bytes ≤ i → get_or new i 0 ≡ get_or buf i 0) → (giving ≡ false → new ≡ buf)
      → (storing ≡ true → out.answer.blocks ≡ 0) → Leaves s st q buf storing giving (done out s new)
  stays storing giving out new a l b g z =
      record {
        unrefused = refl;
        u = h.recorded;
        header = good_header s good;
        reached = kept_rules.place;
        new_u = λ f b. absurd (omega (arith, z f));
        accepted = a;
        image_length = refl;
        buf_length = l;
        buf_beyond = b;
        no_gift = g;
        untouched = λ m a. refl;
        below = λ j a. record { kind = refl; bytes = refl };
        none_stored = λ e. refl;
        no_store = λ e. refl;
      }

  ended : (u : ℕ) (next : State) (e : Ending) (blocks bytes : ℕ) → next.position ≤ u → is_in next.speed speeds ≡ true → Modest n (sense_of e)
      → blocks ≤ h.capacity → bytes ≤ blocks * h.size + (q.length + position_length) → Accepted (with_recorded h u) q (ends next e blocks bytes)
  ended u next e blocks bytes p f m b l =
      rw ends_is
      (record { ruly = record { place = p; speed = f; key = m.0 }; information = m.1; blocks = b; bytes = l; marked = omega arith })

  -- with so many of its blocks told as marked
  telling : (u : ℕ) (x : Outcome State) (k : ℕ) → k ≤ x.answer.blocks → Accepted (with_recorded h u) q x → Accepted (with_recorded h u) q (with_marked x k)
  telling u x k l a = record { ruly = a.ruly; information = a.information; blocks = a.blocks; bytes = a.bytes; marked = l }

  -- nothing but the record changes
  quiet : (next : State) (e : Ending) (bytes : ℕ) → next.position ≤ h.recorded → is_in next.speed speeds ≡ true
      → Modest n (sense_of e) × (bytes ≤ q.length) → Leaves s st q buf false false (done (ends next e 0 bytes) s buf)
  quiet next e bytes p f m =
      stays false false (ends next e 0 bytes) buf (ended h.recorded next e 0 bytes p f m.0 (omega arith) (omega arith)) refl (λ i l. refl) (λ f. refl)
      (λ f. absurd (false≢true f))

  pub early_leaves : (storing giving : Bool) (x : Sense) → Modest 0 x → Leaves s st q buf storing giving (done (ends_before st x) s buf)
  early_leaves storing giving x m =
      let r = kept_rules in
      let k : Ruly h.recorded (ends_before st x).state = record { place = r.place; speed = r.speed; key = m.0 } in
      stays storing giving (ends_before st x) buf
      (record { ruly = k; information = omega arith; blocks = omega arith; bytes = omega arith; marked = omega arith })
      refl (λ i l. refl) (λ f. refl) (λ f. refl)

  replies : (bytes : List ℕ) (asked : ℕ) → asked ≤ q.length + position_length → min asked (length bytes) ≤ length buf
      → Leaves s st q buf false true (reply_work bytes asked st s buf)
  unfolding reply_ends
  replies bytes asked most l =
      let r = kept_rules in
      let f = first_length bytes asked in
      stays false true (ends st Good 0 (min asked (length bytes))) (replied_into bytes asked buf)
      (ended h.recorded st Good 0 _ r.place r.speed (omega arith) (omega arith) (omega arith)) (over_length buf (first_of bytes asked) 0 (omega arith))
      (λ i m. over_above buf (first_of bytes asked) 0 i (omega arith) (omega (arith, rw ends_is at m)))
      (λ f. absurd (false≢true (sym f)))
      (λ f. absurd (false≢true f))

  reads : n * h.size ≤ length buf → Leaves s st q buf false true (read_work s h st n buf)
  unfolding read_work read_ends
  reads l =
      let r = kept_rules in
      let X = read_from s h.size h.kinds h.blocks h.recorded n 0 p buf in
      let less = read_left s h.size h.kinds h.blocks h.recorded n 0 p buf in
      let place = read-place s h.size h.kinds h.blocks h.recorded n 0 p buf r.place in
      let e = ending_of h X.moved.stop X.moved.left in
      let m = ending_modest h X.moved.stop X.moved.left in
      let run = read_run s h.size h.kinds h.blocks h.recorded n 0 p buf in
      let few = few_moved s h.size h.kinds h.blocks h.recorded run r.place in
      let g = sound s h (good_header s good) in
      stays false true (read_moves s h.kinds st n h.size X.moved e) X.buf
      (telling h.recorded _ _ (rw ends_is (marked_few s h.kinds (n - X.moved.left) p))
      (ended h.recorded _ e _ _ place r.speed (omega arith) (omega arith) (omega arith)))
      (read_length s h.size h.kinds h.blocks h.recorded n 0 p buf (omega arith))
      (λ i m.
      (copied s h.size h.kinds h.blocks h.recorded run (omega arith)
      ).beyond (n - X.moved.left) (omega arith) i (omega (arith, rw ends_is at m)))
      (λ f. absurd (false≢true (sym f)))
      (λ f. absurd (false≢true f))

  -- image and buffer stay, and this is the outcome
  abbrev LeavesOnly : Outcome State → Type 0
  LeavesOnly out = Leaves s st q buf false false (done out s buf)

  abbrev far : ℕ
  far = magnitude n

  -- the way back is no longer than its two's complement
  far_most : far ≤ n
  unfolding magnitude is_back
  far_most = either (λ (k : ℕ). k ≤ n) (leb (2 ^ 23) n) _ _ (λ e. omega (arith, leb-true (2 ^ 23) n e)) (λ e. le_refl n)

  abbrev Spaced : Moved → Type 0
  Spaced m = (m.place ≤ h.recorded) × (m.left ≤ far)

  space_run_lem : (code : ℕ) → Spaced (space_run s h p code n)
  unfolding space_run
  space_run_lem code = by (eqb code over_blocks) (is_back n)
    where
      by : (a b : Bool)
          → Spaced (if a && b then blocks_back s h.kinds p far else if a then blocks_on s h.kinds h.recorded far p else
          if b then marks_back s h.kinds p far else marks_on s h.kinds (h.recorded - p) far p)
      by true true = (omega (arith, kept_rules, blocks-back-place s h.kinds p far), (blocks-back-ended s h.kinds p far).less)
      by true false = (blocks-on-place s h.kinds h.recorded far p kept_rules.place, (blocks-on-ended s h.kinds h.recorded far p).less)
      by false true = (omega (arith, kept_rules, marks-back-place s h.kinds p far), (marks-back-ended s h.kinds p far).less)
      by false false = (marks_on_place s h.kinds h.recorded far p kept_rules.place, (marks-on-ended s h.kinds (h.recorded - p) far p).less)

  spaces : (code : ℕ) → Leaves s st q buf false false (done (space_work s h st code n) s buf)
  unfolding space_work
  spaces code =
      either LeavesOnly (eqb code to_end_of_data) _ _
      (λ e. quiet (at_place st h.recorded) Good 0 (le_refl h.recorded) kept_rules.speed (omega arith))
      (λ e.
      let m = space_run s h p code n in
      let r = space_run_lem code in
      quiet (at_place st m.place) (ending_of h m.stop m.left) 0 r.0 kept_rules.speed
      (omega (arith, r.1, far_most, ending_modest h m.stop m.left)))

  selects : Leaves s st q buf false false (done (select_work st q.length buf) s buf)
  unfolding select_work speed_work
  selects =
      either LeavesOnly (not (eqb q.length full_list)) _ _
      (λ e. quiet st Good q.length kept_rules.place kept_rules.speed (omega arith))
      (λ e.
      either LeavesOnly (not (good_list buf)) _ _ (λ f. quiet st (Check wrong_list) 0 kept_rules.place kept_rules.speed (omega arith))
      (λ f.
      let full : q.length ≡ full_list = eqb-true q.length full_list (not-false _ e) in
      quiet (with_speed st (list_speed buf)) Good full_list kept_rules.place (good_speed buf (not-false _ f)) (omega arith)))

  loads : (load : Bool) → Leaves s st q buf false false (done (load_work st load) s buf)
  unfolding load_work
  loads load = quiet _ Good 0 (omega arith) kept_rules.speed (omega arith)

  locks : (prevent : Bool) → Leaves s st q buf false false (done (lock_work st prevent) s buf)
  unfolding lock_work
  locks prevent = quiet _ Good 0 kept_rules.place kept_rules.speed (omega arith)

  locates : (target : ℕ) → Leaves s st q buf false false (done (locate_work h st target) s buf)
  unfolding locate_work
  locates target =
      either LeavesOnly (ltb h.recorded target) _ _
      (λ e. quiet (at_place st h.recorded) (Check beyond_data) 0 (le_refl h.recorded) kept_rules.speed (omega arith))
      (λ e. quiet (at_place st target) Good 0 (ltb-false h.recorded target e) kept_rules.speed (omega arith))

  mode_length_lem : length (mode_bytes h st q) ≡ mode_length q
  mode_length_lem = by (has_page q)
    where
      by : (a : Bool) → length (if a then mode_header h (full_list - 1) ++ mode_page h st else mode_header h (short_list - 1))
          ≡ (if a then full_list else short_list)
      by true = refl
      by false = refl

  -- ---- WRITE and WRITE FILEMARK

  within : p ≤ h.capacity
  within =
      let g = sound s h (good_header s good) in
      let r = kept_rules in
      omega arith

  stored : (Apart : ℕ → ℕ → Type 0) (size : ℕ) (X : Writing) → size ≤ h.size → X.moved.left ≤ n → X.moved.place + X.moved.left ≡ p + n
      → Laid h Apart p s X
      → ((m : ℕ) → Outside (h.kinds + p) (n - X.moved.left) m → Outside (h.blocks + p * h.size) ((n - X.moved.left) * size) m
      → (i : ℕ) → p ≤ i → i < X.moved.place → Apart i m)
      → Leaves s st q buf true false (write_ends h st n size buf X)
  unfolding write_ends
  stored Apart size X y l t w a =
      let place = X.moved.place in
      let e = write_ending h n X.moved in
      let m = write_modest h n X.moved in
      let f = w.onward in
      let g = w.reached in
      let c = after_reached h.recorded p place kept_rules.place in
      let b = mul-le-mul_left (n - X.moved.left) y in
      record {
        unrefused = refl;
        u = recorded_after h.recorded p place;
        header = record_header X.image h w.header p place g;
        reached = omega arith;
        new_u = λ f b. rw ends_is (after_stored h.recorded p place (omega (arith, rw ends_is at b)));
        accepted = ended (recorded_after h.recorded p place) _ e _ _ c kept_rules.speed (omega arith) (omega arith) (omega arith);
        image_length = record_length X.image p place ∙ w.size;
        buf_length = refl;
        buf_beyond = λ i m. refl;
        no_gift = λ f. refl;
        untouched = λ m o. record_apart X.image p place m o.not_recorded ∙ w.apart m (a m (rw ends_is at o.not_kind) (rw ends_is at o.not_block));
        below = λ j b.
            let c : j < h.capacity = omega arith in
            let k = w.others j c (inl b) in
            record {
              kind = record_kind X.image h w.header p place g j ∙ k.kind;
              bytes = record_bytes_lem X.image h w.header p place g j c ∙ k.bytes;
            };
        none_stored = λ z. let y = rw ends_is at z in record_none X.image p place (omega arith) ∙ w.none (omega arith);
        no_store = λ z. absurd (false≢true (sym z));
      }

  writes : n * h.size ≤ length buf → Leaves s st q buf true false (write_work s h st n buf)
  unfolding write_work
  writes l =
      let X = write_from h.size h.kinds h.blocks h.capacity buf n 0 p s in
      let less = lay-left (block_of h.size h.kinds h.blocks buf) h.size h.capacity n 0 p s in
      let passed = lay-passed (block_of h.size h.kinds h.blocks buf) h.size h.capacity n 0 p s in
      let run = lay_run (block_of h.size h.kinds h.blocks buf) h.size h.capacity n 0 p s in
      stored (Apart h) h.size X (le_refl h.size) less passed
      (blocks-laid h h.capacity (le_refl h.capacity) buf run (good_header s good) within (omega arith))
      (λ m k b i x y. (off_kinds h p _ _ m (omega arith) k i x y, off_blocks h p _ _ m (omega arith) b i x y))

  marks : Leaves s st q buf true false (mark_work s h st n buf)
  unfolding mark_work
  marks =
      let X = mark_from h.kinds h.capacity n p s in
      let less = lay-left (mark_of h.kinds) 0 h.capacity n 0 p s in
      let passed = lay-passed (mark_of h.kinds) 0 h.capacity n 0 p s in
      stored (OffKind h) 0 X (omega arith) less passed
      (marks_laid h h.capacity (le_refl h.capacity) (lay_run (mark_of h.kinds) 0 h.capacity n 0 p s) (good_header s good) within)
      (λ m k b i x y. off_kinds h p _ _ m (omega arith) k i x y)

  -- ---- by command

  pub work_leaves : (c : Command) → (asked_by c h q).needed ≤ length buf → Leaves s st q buf (stores_on c) (gives c) (work_of c s h st q buf)
  unfolding work_of asked_by
  work_leaves Unknown l = quiet st Good 0 kept_rules.place kept_rules.speed (omega arith)
  work_leaves TestUnitReady l = quiet st Good 0 kept_rules.place kept_rules.speed (omega arith)
  work_leaves Rewind l = quiet (at_place st 0) Good 0 (omega arith) kept_rules.speed (omega arith)
  work_leaves RequestSense l = replies (sense_bytes st.sense) q.length (omega arith) l
  work_leaves Read l = reads l
  work_leaves Write l = writes l
  work_leaves WriteFilemarks l = marks
  work_leaves Space l = spaces (space_code q)
  work_leaves Inquiry l = replies stream_inquiry q.length (omega arith) l
  work_leaves ModeSelect l = selects
  work_leaves ModeSense l = replies (mode_bytes h st q) q.length (omega arith) (rw mode_length_lem l)
  work_leaves LoadUnload l = loads (load_bit q)
  work_leaves Locate l = locates q.target
  work_leaves ReadPosition l = replies (position_bytes h st) position_length (omega arith) l
  work_leaves PreventAllow l = locks (prevent_bit q)

-- every packet that is not refused
module _ (s : List ℕ) (st : State) (packet buf : List ℕ) where
  abbrev LeavesSo : Left State → Type 0
  LeavesSo x = Leaves s st (request_of packet) buf (stores packet) (gives (request_of packet).command) x

  accepted_by : {x : Left State} → Way stream_device s st packet buf x → number_of x ≡ 0 → LeavesSo x
  unfolding carried_out
  accepted_by (cut n) e = absurd (omega arith)
  accepted_by (broken t b) e = absurd (omega arith)
  accepted_by (unruly t g b) e = absurd (omega arith)
  accepted_by (short p f l) e = absurd (omega arith)
  accepted_by (ends-early p x f k) e =
      early_leaves s st (request_of packet) buf p.good p.ruly (stores packet) (gives (request_of packet).command) x (omega (arith, k))
  accepted_by (works p f l) e = work_leaves s st (request_of packet) buf p.good p.ruly (request_of packet).command l

  pub accepted_leaves : number_of (packet_step s st packet buf) ≡ 0 → LeavesSo (packet_step s st packet buf)
  accepted_leaves e = accepted_by (way stream_device s st packet buf) e
