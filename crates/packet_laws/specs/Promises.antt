-- What every packet device promises, one named type each; proofs/ proves them of any device whose work refuses nothing, the fifth where it keeps the speed,
-- the sixth where its READ counts the marked blocks, the last two where it has a lock.
-- Assumes nothing.
use Rattle.std.specs.Prelude.{ℕ, ◌+◌, Bool, true, false, List, ◌↔◌, ◌≡◌, length, get_or, if◌then◌else◌}
use Rattle.numbers.specs.Over.{part}
use Rattle.image.specs.Header.{fields_of}
use Rattle.opcodes.specs.declared.Command.TheVariants.{Read, LoadUnload, PreventAllow}
use Rattle.packet_state.specs.Senses.{no_sense, removal_prevented}
use Rattle.packet_state.specs.States.{at_place, with_loaded, with_locked, with_sense}
use Rattle.packet_parts.specs.Answers.{good_status, check_condition, not_twelve_bytes}
use Rattle.packet_parts.specs.Replies.{short_list}
use Rattle.packet_parts.specs.Requests.{packet_length, load_bit, prevent_bit}
use Rattle.packet_parts.specs.Shell.{Device, found_by, answers_to}
use Rattle.packet_work.specs.Settings.{list_speed, good_list}
use Rattle.packet_laws.specs.Words.{number_of, status_of, blocks_of, marked_of, marked_among, Refusal, Due, Unended, Begins, AsksSpeed, SendsSpeed}
use Rattle.packet_laws.specs.Words.{AsksDoor, Unloads, Locks, leaves_only}

module _ {R : Type 0} (d : Device R) where
  -- "1: packet is not 12 bytes", whatever the image, the record and the buffer; nothing changes.
  abbrev pub CutPacket : Type 0
  CutPacket =
      (s : List ℕ) (st : R) (packet buf : List ℕ) → (length packet ≡ packet_length → ⊥)
      → (number_of (answers_to d s st packet buf) ≡ not_twelve_bytes) × Refusal s st buf (answers_to d s st packet buf)

  -- "A refused call gives its number, and image, buffers and record are then as they were."
  abbrev pub RefusedKeeps : Type 0
  RefusedKeeps =
      (s : List ℕ) (st : R) (packet buf : List ℕ) → (number_of (answers_to d s st packet buf) ≡ 0 → ⊥)
      → Refusal s st buf (answers_to d s st packet buf)

  -- "Given exactly when": every packet is given the one number that 01's table has for it.
  abbrev pub NumberExactly : Type 0
  NumberExactly = (s : List ℕ) (st : R) (packet buf : List ℕ) (n : ℕ) → (number_of (answers_to d s st packet buf) ≡ n) ↔ Due d s st packet buf n

  -- A packet begins exactly when its number is 0 and none of the endings before the work holds, 01's and the lock's.
  abbrev pub BeginsExactly : Type 0
  BeginsExactly =
      (s : List ℕ) (st : R) (packet buf : List ℕ)
      → Begins d s st packet buf ↔ ((number_of (answers_to d s st packet buf) ≡ 0) × Unended d s st packet buf)

  -- 02, A2: "Callers that relied on 0 set it themselves by 15h, and MODE SENSE bytes 14-15 .. follow": 1Ah gives a list with the record's speed, a list of
  -- 32 bytes sets the speed that it has exactly where it is good, and no other packet changes it.
  pub record SpeedFollows : Type 0 where
    pub told : (s : List ℕ) (st : R) (packet buf : List ℕ) → AsksSpeed d s st packet buf
        → list_speed (answers_to d s st packet buf).buf ≡ (d.shared st).speed
    pub taken : (s : List ℕ) (st : R) (packet list : List ℕ) → SendsSpeed d s st packet list
        → (status_of (answers_to d s st packet list) ≡ good_status) ↔ (good_list list ≡ true)
    pub set : (s : List ℕ) (st : R) (packet list : List ℕ) → SendsSpeed d s st packet list → good_list list ≡ true
        → (d.shared (answers_to d s st packet list).state).speed ≡ list_speed list
    pub kept : (s : List ℕ) (st : R) (packet buf : List ℕ) → (SendsSpeed d s st packet buf → good_list buf ≡ true → ⊥)
        → (d.shared (answers_to d s st packet buf).state).speed ≡ (d.shared st).speed

  -- 02, A6: "a READ's answer also says how many of the blocks copied were marked": of the kinds of those blocks, from P on, so many are 4. Every other packet,
  -- and every refusal, says 0.
  pub record MarkedCounted : Type 0 where
    pub counted : (s : List ℕ) (st : R) (packet buf : List ℕ) → Begins d s st packet buf → (d.request packet).command ≡ Read
        → marked_of (answers_to d s st packet buf)
        ≡ marked_among (part s ((fields_of s).kinds + (d.shared st).position) (blocks_of (answers_to d s st packet buf)))
    pub none : (s : List ℕ) (st : R) (packet buf : List ℕ) → (Begins d s st packet buf → (d.request packet).command ≡ Read → ⊥)
        → marked_of (answers_to d s st packet buf) ≡ 0

  -- 02, A8: "PREVENT/ALLOW MEDIUM REMOVAL (1Eh, byte 4 bit 0)", "1Eh has no not-ready check": loaded or not, the locked flag is then as the bit says, and
  -- only the sense is new beside it. No other packet changes the flag. "Page 2Ah shows LOCK (01h) always and LOCKED (02h) while locked, in byte 6.", with
  -- 01's 08h.
  pub record LockFollows : Type 0 where
    pub set : (s : List ℕ) (st : R) (packet buf : List ℕ) → Locks d s st packet buf
        → answers_to d s st packet buf
        ≡ leaves_only d s st packet buf good_status (with_sense (with_locked (d.shared st) (prevent_bit (d.request packet))) no_sense)
    pub kept : (s : List ℕ) (st : R) (packet buf : List ℕ) → (Begins d s st packet buf → (d.request packet).command ≡ PreventAllow → ⊥)
        → (d.shared (answers_to d s st packet buf).state).locked ≡ (d.shared st).locked
    pub told : (s : List ℕ) (st : R) (packet buf : List ℕ) → AsksDoor d s st packet buf
        → get_or (answers_to d s st packet buf).buf (short_list + 6) 0 ≡ (if (d.shared st).locked then 0x0b else 0x09)

  -- 02, A8: "Operators eject while the build is running.": while locked, no packet but 1Eh with bit 0 clear unlocks, and no packet at all unloads.
  pub record LockedStays : Type 0 where
    pub locked : (s : List ℕ) (st : R) (packet buf : List ℕ) → (d.shared st).locked ≡ true
        → (Begins d s st packet buf → (d.request packet).command ≡ PreventAllow → prevent_bit (d.request packet) ≡ false → ⊥)
        → (d.shared (answers_to d s st packet buf).state).locked ≡ true
    pub loaded : (s : List ℕ) (st : R) (packet buf : List ℕ) → (d.shared st).locked ≡ true → (d.shared st).loaded ≡ true
        → (d.shared (answers_to d s st packet buf).state).loaded ≡ true
    -- "Unloading while locked ends with 5/53/02; the position stays.": only the sense is new, be anything loaded or not
    pub prevented : (s : List ℕ) (st : R) (packet buf : List ℕ) → Unloads d s st packet buf → (d.shared st).locked ≡ true
        → answers_to d s st packet buf ≡ leaves_only d s st packet buf check_condition (with_sense (d.shared st) removal_prevented)
    -- and an open drive unloads, as 01 has it: "P = 0; loaded as the bit says."
    pub opened : (s : List ℕ) (st : R) (packet buf : List ℕ) → Unloads d s st packet buf → (d.shared st).locked ≡ false
        → answers_to d s st packet buf ≡ leaves_only d s st packet buf good_status (with_sense (with_loaded (at_place (d.shared st) 0) false) no_sense)
    -- the lock stops nothing else: be it turned to either side, every packet but an unload comes to the same verdict before its work
    pub others : (s : List ℕ) (st : R) (packet buf : List ℕ) (locked : Bool)
        → ((d.request packet).command ≡ LoadUnload → load_bit (d.request packet) ≡ false → ⊥)
        → found_by d (fields_of s) (d.with_shared st (with_locked (d.shared st) locked)) (d.request packet) (length buf)
        ≡ found_by d (fields_of s) st (d.request packet) (length buf)
