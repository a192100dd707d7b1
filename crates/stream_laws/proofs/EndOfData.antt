-- 02, A3: the drive now is the drive before, but for the EOM that 8/00/05 carries on READ and SPACE.
-- Assumes nothing.
use Rattle.std.specs.Prelude.{Ok, Err}
use Prim.Native.Nat.{ℕ, ◌-◌, ◌≤◌}
use native.Mathlib.Omega.{arith}
use mathlib.Core.Bool.{Bool, true, false, not, ◌&&◌, and-false, false≢true}
use mathlib.Core.List.{List, []}
use mathlib.Core.Path.{◌≡◌, refl, sym, ap, ◌∙◌}
use borrow.Author.Tests.{le-ltb, ne_eqb}
use lib.Dec.{eqb, leb, ltb}
use Rattle.numbers.specs.Choice.{◌≡ᵇ◌}
use Rattle.numbers.proofs.Cases.{test, either, never}
use Rattle.image.specs.declared.header.Header.{Header}
use Rattle.image.specs.Header.{fields_of, with_warning}
use Rattle.image.proofs.HeaderLaws.{good_header, sound}
use Rattle.opcodes.specs.declared.Command.{Command}
use Rattle.opcodes.specs.declared.Command.TheVariants.{Unknown, TestUnitReady, Rewind, RequestSense, Read, Write, WriteFilemarks, Space, Inquiry}
use Rattle.opcodes.specs.declared.Command.TheVariants.{ModeSelect, ModeSense, LoadUnload, Locate, ReadPosition, PreventAllow}
use Rattle.transfer.specs.declared.Moved.{Moved}
use Rattle.transfer.specs.declared.Stop.{Stop}
use Rattle.transfer.specs.declared.Stop.TheVariants.{Full, AtFilemark, AtBadBlock, AtEnd, AtBeginning}
use Rattle.packet_state.specs.Answers.{Ending}
use Rattle.packet_state.specs.declared.state.Outcome.{Outcome}
use Rattle.packet_state.specs.declared.state.State.{State}
use Rattle.packet_state.specs.declared.state.Verdict.{Verdict}
use Rattle.packet_parts.specs.declared.requests.Request.{Request}
use Rattle.packet_parts.specs.Answers.{Left, done, ends, with_marked}
use Rattle.packet_parts.specs.Replies.{full_list, reply_ends}
use Rattle.packet_parts.specs.Shell.{refuses, carried_out}
use Rattle.packet_parts.proofs.VerdictLaws.{found_early, found-short, found-clear}
use Rattle.packet_work.specs.Settings.{good_list, speed_work, load_work, lock_work}
use Rattle.numbers.specs.Refusals.{number_of}
use Rattle.numbers.specs.declared.refusals.Refusal.TheVariants.{ShortBuffer}
use Rattle.packet_laws.specs.Words.{Passes}
use Rattle.packet_laws.proofs.Endings.{ends_none}
use Rattle.packet_laws.proofs.Ways.{FoundFor, carried, way_beside}
use Rattle.packet_state.specs.States.{at_place}
use Rattle.transfer.specs.Reading.{read_from}
use Rattle.stream_parts.specs.Requests.{request_of, space_code, to_end_of_data}
use Rattle.stream_parts.specs.Warning.{past_warning}
use Rattle.stream.specs.Packet.{stream_device, packet_step}
use Rattle.stream.specs.Work.{ending_of, read_ends, read_work, write_ending, write_ends, write_work, mark_work, space_run, space_work}
use Rattle.stream.specs.Work.{select_work, locate_work, work_of}
use Rattle.stream_laws.specs.EndOfData.{asks_warning, seen_before, device_before, step_before, reads_or_spaces, blank_check, tells_end, carrying_eom}
use Rattle.stream_laws.specs.Demands.{EndOfDataEom}

-- ---- the work of each command, now and before

-- READ and SPACE, by their stop, with so many blocks told as marked
ended : (c : Command) (h : Header) (st : State) (stop : Stop) (left blocks bytes marked : ℕ) (s buf : List ℕ) → reads_or_spaces c ≡ true
    → done (with_marked (ends st (ending_of h stop left) blocks bytes) marked) s buf
    ≡ carrying_eom c h (done (with_marked (ends st (ending_of (with_warning h 0) stop left) blocks bytes) marked) s buf)
unfolding ends ending_of
ended c h st Full left blocks bytes marked s buf e = rw e
ended c h st AtFilemark left blocks bytes marked s buf e = rw e
ended c h st AtBadBlock left blocks bytes marked s buf e = rw e
ended c h st AtEnd left blocks bytes marked s buf e = rw e
ended c h st AtBeginning left blocks bytes marked s buf e = rw e

-- SPACE tells of none
spaced : (h : Header) (st : State) (stop : Stop) (left : ℕ) (s buf : List ℕ)
    → done (ends st (ending_of h stop left) 0 0) s buf ≡ carrying_eom Space h (done (ends st (ending_of (with_warning h 0) stop left) 0 0) s buf)
spaced h st stop left s buf =
    ap (λ (x : Outcome State). done x s buf) (sym (ends_none _ _ 0 0))
    ∙ ended Space h st stop left 0 0 0 s buf refl
    ∙ ap (λ (x : Outcome State). carrying_eom Space h (done x s buf)) (ends_none _ _ 0 0)

work_now : (c : Command) (s : List ℕ) (h : Header) (st : State) (q : Request) (buf : List ℕ)
    → work_of c s h st q buf ≡ carrying_eom c h (work_of c s (seen_before c h) st q buf)
unfolding work_of read_work read_ends space_run space_work locate_work ends
work_now Unknown s h st q buf = refl
work_now TestUnitReady s h st q buf = refl
work_now Rewind s h st q buf = refl
work_now RequestSense s h st q buf = refl
work_now Read s h st q buf =
    let r = read_from s h.size h.kinds h.blocks h.recorded q.count 0 st.position buf in
    ended Read h (at_place st r.moved.place) _ _ _ _ _ s _ refl
work_now Write s h st q buf = refl
work_now WriteFilemarks s h st q buf = refl
work_now Space s h st q buf =
    let after = at_place st (space_run s h st.position (space_code q) q.count).place in
    test (eqb (space_code q) to_end_of_data) (λ e. rw e) (λ e. rw e (spaced h after _ _ s buf))
work_now Inquiry s h st q buf = refl
work_now ModeSelect s h st q buf = refl
work_now ModeSense s h st q buf = refl
work_now LoadUnload s h st q buf = refl
work_now Locate s h st q buf = refl
work_now ReadPosition s h st q buf = refl
work_now PreventAllow s h st q buf = refl

-- ---- before, no 8/00/05 carried EOM

-- an 8/00/05 with EOM
abbrev shows : Ending → Bool
shows (Ok u) = false
shows (Err x) = (x.key ≡ᵇ blank_check) && x.eom

stop_shows : (h : Header) (stop : Stop) (left : ℕ) → h.recorded ≤ h.capacity → shows (ending_of (with_warning h 0) stop left) ≡ false
unfolding ending_of
stop_shows h Full left l = refl
stop_shows h AtFilemark left l = refl
stop_shows h AtBadBlock left l = refl
stop_shows h AtEnd left l = le-ltb (h.capacity - 0) h.recorded (omega arith)
stop_shows h AtBeginning left l = refl

write_shows : (h : Header) (asked : ℕ) (m : Moved) → shows (write_ending h asked m) ≡ false
unfolding write_ending
write_shows h asked m =
    let None : Ending → Type 0 = λ x. shows x ≡ false in
    either None (leb 1 m.left) _ _ (λ p. refl)
    (λ p. either None (leb 1 asked && past_warning h m.place) _ _ (λ q. refl) (λ q. refl))

abbrev Plain : Left State → Type 0
Plain x = tells_end x ≡ true → x.state.sense.eom ≡ false

-- of an outcome, whatever image and buffer stand beside it
abbrev PlainOut : Outcome State → Type 0
PlainOut out = Plain (done out [] [])

ends_plain : (st : State) (e : Ending) (blocks bytes : ℕ) → shows e ≡ false → PlainOut (ends st e blocks bytes)
unfolding ends
ends_plain st (Ok u) blocks bytes f t = absurd (false≢true t)
ends_plain st (Err x) blocks bytes f t = rw t at f

work_plain : (c : Command) (s : List ℕ) (h : Header) (st : State) (q : Request) (buf : List ℕ) → h.recorded ≤ h.capacity
    → Plain (work_of c s (seen_before c h) st q buf)
unfolding work_of read_work read_ends write_work write_ends mark_work space_run space_work select_work speed_work locate_work load_work lock_work reply_ends
work_plain Unknown s h st q buf l = ends_plain _ _ _ _ refl
work_plain TestUnitReady s h st q buf l = ends_plain _ _ _ _ refl
work_plain Rewind s h st q buf l = ends_plain _ _ _ _ refl
work_plain RequestSense s h st q buf l = ends_plain _ _ _ _ refl
work_plain Read s h st q buf l = ends_plain _ _ _ _ (stop_shows h _ _ l)
work_plain Write s h st q buf l = ends_plain _ _ _ _ (write_shows h _ _)
work_plain WriteFilemarks s h st q buf l = ends_plain _ _ _ _ (write_shows h _ _)
work_plain Space s h st q buf l =
    either PlainOut (eqb (space_code q) to_end_of_data) _ _ (λ e. ends_plain _ _ _ _ refl) (λ e. ends_plain _ _ _ _ (stop_shows h _ _ l))
work_plain Inquiry s h st q buf l = ends_plain _ _ _ _ refl
work_plain ModeSelect s h st q buf l =
    either PlainOut (not (eqb q.length full_list)) _ _ (λ e. ends_plain _ _ _ _ refl)
    (λ e. either PlainOut (not (good_list buf)) _ _ (λ f. ends_plain _ _ _ _ refl) (λ f. ends_plain _ _ _ _ refl))
work_plain ModeSense s h st q buf l = ends_plain _ _ _ _ refl
work_plain LoadUnload s h st q buf l = ends_plain _ _ _ _ refl
work_plain Locate s h st q buf l =
    either PlainOut (ltb h.recorded q.target) _ _ (λ e. ends_plain _ _ _ _ refl) (λ e. ends_plain _ _ _ _ refl)
work_plain ReadPosition s h st q buf l = ends_plain _ _ _ _ refl
work_plain PreventAllow s h st q buf l = ends_plain _ _ _ _ refl

-- ---- the whole packet

-- with W 0 every command sees the header as it is
seen_same : (c : Command) (h : Header) → h.warning ≡ 0 → seen_before c h ≡ h
seen_same c h e = either (λ (x : Header). x ≡ h) (asks_warning c) _ _ (λ t. refl) (λ t. ap (λ (w : ℕ). with_warning h w) (sym e))

-- x is left now where y was left before
record Now (c : Command) (h : Header) (x y : Left State) : Type 0 where
  now : x ≡ carrying_eom c h y
  plain : Plain y
  unwarned : h.warning ≡ 0 → x ≡ y

-- what did not end with 8/00/05
other_now : (c : Command) (h : Header) (x : Left State) → tells_end x ≡ false → Now c h x x
other_now c h x e = record { now = rw (e, and-false (reads_or_spaces c)); plain = λ t. never t e; unwarned = λ z. refl }

module _ (s : List ℕ) (st : State) (packet buf : List ℕ) where
  abbrev q : Request
  q = request_of packet

  abbrev h : Header
  h = fields_of s

  abbrev NowBefore : Left State → Left State → Type 0
  NowBefore x y = Now q.command h x y

  refused_now : (n : ℕ) → NowBefore (refuses st n s buf) (refuses st n s buf)
  refused_now n = other_now q.command h (refuses st n s buf) refl

  verdict_now : {v : Verdict} → Passes stream_device s st packet buf → FoundFor stream_device s st packet buf v
      → NowBefore (carried stream_device s st packet buf v) (carried device_before s st packet buf v)
  unfolding carried_out
  verdict_now p (found_early x e k) = other_now q.command h _ (ne_eqb x.key blank_check (λ z. omega arith))
  verdict_now p (found-short e l) = refused_now (number_of ShortBuffer)
  verdict_now p (found-clear e l) =
      record {
        now = work_now q.command s h st q buf;
        plain = work_plain q.command s h st q buf (sound s h (good_header s p.good)).recorded_within;
        unwarned = λ z. rw (seen_same q.command h z);
      }

  packet_now : NowBefore (packet_step s st packet buf) (step_before s st packet buf)
  packet_now = way_beside stream_device _ s st packet buf NowBefore refused_now (λ v p f. verdict_now p f)

pub end_of_data_eom : EndOfDataEom
end_of_data_eom =
    record {
      shown = λ s st packet buf r e.
          let w = (packet_now s st packet buf).now in
          test (tells_end (step_before s st packet buf)) (λ t. rw (w, r, t)) (λ t. never (rw (w, r, t) at e) t);
      located = λ s st packet buf c e.
          let w = packet_now s st packet buf in
          let z : packet_step s st packet buf ≡ step_before s st packet buf = rw c at w.now in
          rw z (w.plain (rw z at e));
      else_before = λ s st packet buf. (packet_now s st packet buf).now;
      none_before = λ s st packet buf. (packet_now s st packet buf).plain;
      unwarned = λ s st packet buf z e.
          let w = packet_now s st packet buf in
          rw (w.unwarned z) (w.plain (rw (w.unwarned z) at e));
    }
