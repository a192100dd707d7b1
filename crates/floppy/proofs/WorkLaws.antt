-- What the work of the commands needs.
-- Assumes nothing.
use mathlib.Core.Path.{◌≡◌}
use mathlib.Core.Bool.{true}
use mathlib.Core.List.{List, ◌++◌}
use Prim.Native.Nat.{ℕ, ◌≤◌}
use native.Mathlib.Omega.{arith}
use Rattle.std.specs.Prelude.{Some}
use Rattle.image.specs.declared.header.Header.{Header}
use Rattle.image.specs.Header.{header_of}
use Rattle.image.proofs.HeaderLaws.{sound}
use Rattle.opcodes.specs.declared.Command.{Command}
use Rattle.opcodes.specs.declared.Command.TheVariants.{ModeSelect}
use Rattle.packet_state.specs.Answers.{Ending}
use Rattle.packet_state.specs.declared.state.Outcome.{Outcome}
use Rattle.packet_state.specs.declared.state.State.{State}
use Rattle.packet_parts.specs.Answers.{done}
use Rattle.packet_work.specs.Moving.{read_moves}
use Rattle.transfer.specs.declared.Moved.{Moved}
use Rattle.transfer.specs.Reading.{reads, read_from}
use Rattle.floppy.specs.Work.{read_ending, read_ends, read_work}
use Rattle.packet_parts.specs.declared.requests.Request.{Request}
use Rattle.packet_parts.specs.Replies.{device_page, mode_header, device_page_bytes}
use Rattle.packet_parts.specs.Requests.{page_code}
use Rattle.floppy_parts.specs.declared.tape.Tape.{Tape}
use Rattle.floppy_parts.specs.Checks.{asked_by}
use Rattle.floppy_parts.specs.Replies.{floppy_mode, tape_page, tape_mode, mode_bytes}
use Rattle.floppy_parts.specs.Settings.{good_tape_list}
use Rattle.floppy_parts.specs.Tape.{product, listed_tape}
use Rattle.floppy_parts.proofs.SettingLaws.{good_within}

-- ---- what a packet has passed

module _ (s : List ℕ) (h : Header) (good : header_of s ≡ Some h) where
  pub capacity_bound : h.capacity ≤ 65535
  capacity_bound = (sound s h good).capacity_most

  pub end_bound : (t : Tape) → product t ≤ h.capacity → product t ≤ 65535
  end_bound t l = omega (arith, capacity_bound)

pub select_room : (k : Command) (h : Header) (end : ℕ) (q : Request) (n : ℕ) → k ≡ ModeSelect → (asked_by k h end q).needed ≤ n → q.length ≤ n
unfolding asked_by
select_room k h end q n e l = rw e at l

pub ruleset work_ways = (capacity_bound, select_room)

-- ---- READ

-- it answers what its run moved, as the run ended
module _ (s : List ℕ) (h : Header) (end : ℕ) (st : State) (asked : ℕ) (buf new : List ℕ) (m : Moved)
    (run : reads new m ≡ read_from s h.size h.kinds h.blocks end asked 0 st.position buf) where
  pub read_went : (x : Ending) (r : Outcome State) → x ≡ read_ending m.stop m.left → r ≡ read_moves s h.kinds st asked h.size m x
      → done r s new ≡ read_work s h end st asked buf
  unfolding read_work read_ends
  read_went x r p q = rw (← run, q, p)

-- ---- 1Ah

module _ (h : Header) (st : State) (t : Tape) (q : Request) where
  pub device_shown : page_code q ≡ device_page → mode_header h 31 ++ device_page_bytes h st floppy_mode t.bseg ≡ mode_bytes h st t q
  device_shown e = rw e

  pub tape_shown : page_code q ≡ tape_page → tape_mode h t ≡ mode_bytes h st t q
  tape_shown e = rw e

-- ---- 15h

-- the product of a list that is taken is within the elements of an image
pub listed_bound : (h : Header) (list : List ℕ) (t : Tape) → h.capacity ≤ 65535 → good_tape_list h list ≡ true → t ≡ listed_tape list
    → product t ≤ 65535
listed_bound h list t l e p = rw p (omega (arith, good_within h list e))
