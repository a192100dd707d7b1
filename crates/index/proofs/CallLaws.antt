-- The ways of `make` and `packet`.
-- Assumes nothing.
use Rattle.std.specs.Prelude.{Some, None, Ok, Err, if◌then◌else◌}
use mathlib.Core.Path.{◌≡◌, refl, sym}
use mathlib.Core.Bool.{Bool, true, false, not}
use mathlib.Core.List.{List}
use Prim.Native.Nat.{ℕ, ◌+◌, ◌*◌, ◌-◌, ◌≤◌}
use Rattle.std.proofs.Common.{Fits, w32}
use native.Mathlib.Omega.{arith}
use borrow.Author.Tests.{eq-eqb, ltb-false}
use lib.Dec.{ltb}
use lib.ListN.{length}
use Rattle.numbers.specs.declared.refusals.Refusal.{Refusal}
use Rattle.numbers.specs.declared.refusals.Refusal.TheVariants.{NotTwelveBytes, BrokenImage, UnrulyRecord, ShortIndex, StaleIndex}
use Rattle.image.specs.declared.header.Header.{Header}
use Rattle.image.specs.Header.{header_of}
use Rattle.image.proofs.HeaderLaws.{fields_are, keeps_of, broken_of, sound}
use Rattle.packet_state.specs.Answers.{accepted, refusal}
use Rattle.packet_state.specs.declared.state.State.{State}
use Rattle.packet_state.specs.declared.state.Told.{Told}
use Rattle.packet_parts.specs.Answers.{left, told}
use Rattle.packet_parts.specs.Shell.{Begun, begun, refuses}
use Rattle.packet_parts.proofs.ShellLaws.{twelve_of}
use Rattle.stream.specs.Packet.{stream_device, packet_step}
use Rattle.index.specs.Entries.{marks_from, filemarks_of, entries_of, fresh_index, is_fresh}
use Rattle.index.specs.Keeping.{Indexed, made, makes, indexed, afresh, Beside, indexed_step}
use Rattle.index.specs.Rewriting.{entries_put}

-- ---- the ways of `make`

module _ (s index : List ℕ) where
  pub make_broken : None ≡ header_of s → made (refusal 2) index ≡ makes s index
  unfolding makes
  make_broken e = rw (broken_of s (sym e)) refl

  module _ (h : Header) (good : Some h ≡ header_of s) where
    pub marks_fit : (0 ≤ h.recorded) × (h.kinds + h.recorded ≤ length s)
    marks_fit = let g = sound s h (sym good) in omega arith

    pub entries_fit : ltb (length index) (4 * h.capacity) ≡ false → (0 ≤ 0) × ((h.recorded ≤ 65535) × (4 * h.recorded ≤ length index))
    entries_fit e = let g = sound s h (sym good) in omega (arith, ltb-false (length index) (4 * h.capacity) e)

    pub blanks_fit : ltb (length index) (4 * h.capacity) ≡ false → (h.capacity ≤ 65535) × (4 * h.capacity ≤ length index)
    blanks_fit e = let g = sound s h (sym good) in omega (arith, ltb-false (length index) (4 * h.capacity) e)

    pub bytes_fit : Fits w32 (4 * h.capacity)
    bytes_fit = let g = sound s h (sym good) in omega arith

    pub make_short : ltb (length index) (4 * h.capacity) ≡ true → made (refusal 9) index ≡ makes s index
    unfolding makes
    make_short e = rw (keeps_of s h (sym good), fields_are s h (sym good), e) refl

    pub make_well : (index' : List ℕ) (n : ℕ) (t : Told) → ltb (length index) (4 * h.capacity) ≡ false
        → n ≡ 0 + length (marks_from s h.kinds (h.recorded - 0) 0)
        → index' ≡ entries_put index 0 h.capacity (marks_from s h.kinds (h.recorded - 0) 0) → t ≡ told 0 n (4 * h.capacity)
        → made (accepted t) index' ≡ makes s index
    unfolding makes fresh_index entries_of filemarks_of
    make_well index' n t e q p r =
        let z : h.recorded - 0 ≡ h.recorded = omega arith in
        let marks = marks_from s h.kinds h.recorded 0 in
        let y : 0 + length marks ≡ length marks = omega arith in
        rw (keeps_of s h (sym good), fields_are s h (sym good), e, r, q, p, z, y) refl

pub ruleset make_ways = (make_broken, make_short, make_well, marks_fit, entries_fit, blanks_fit, bytes_fit)

-- ---- the ways of `packet`

module _ (s index : List ℕ) (st : State) (packet buf : List ℕ) where
  refused_by : (t a k : Bool) (h : Header) (w : Indexed) (r : Refusal)
      → (if not t then Err NotTwelveBytes else if not a then Err BrokenImage else if not k then Err UnrulyRecord else Ok h) ≡ Err r
      → indexed (left st (Err r) s buf) index
      ≡ (if not t then indexed (refuses st 1 s buf) index else
      if not a then indexed (refuses st 2 s buf) index else
      if not k then indexed (refuses st 3 s buf) index else
      w)
  refused_by false a k h w r e = let p : NotTwelveBytes ≡ r = cc in rw (← p)
  refused_by true false k h w r e = let p : BrokenImage ≡ r = cc in rw (← p)
  refused_by true true false h w r e = let p : UnrulyRecord ≡ r = cc in rw (← p)
  refused_by true true true h w r e = absurd cc

  -- 1, 2 or 3
  pub refused_first : (r : Refusal) → begun stream_device s st packet ≡ Err r
      → indexed (left st (Err r) s buf) index ≡ indexed_step s index st packet buf
  unfolding begun indexed_step
  refused_first r e = refused_by _ _ _ _ _ r e

  module _ (h : Header) (passed : Ok h ≡ begun stream_device s st packet) (b : Begun stream_device s h st) where
    twelve : length packet ≡ 12
    twelve = twelve_of stream_device s st packet buf h passed

    pub no_room : ltb (length index) (4 * h.capacity) ≡ true → indexed (left st (Err ShortIndex) s buf) index ≡ indexed_step s index st packet buf
    unfolding indexed_step
    no_room e = rw (eq-eqb _ _ twelve, keeps_of s h b.header, fields_are s h b.header, b.ruled, e)

    module _ (room : ltb (length index) (4 * h.capacity) ≡ false) where
      pub not_fresh : is_fresh s index ≡ false → indexed (left st (Err StaleIndex) s buf) index ≡ indexed_step s index st packet buf
      unfolding indexed_step
      not_fresh e = rw (eq-eqb _ _ twelve, keeps_of s h b.header, fields_are s h b.header, b.ruled, room, e)

      module _ (fresh : is_fresh s index ≡ true) where
        pub beside : Beside s h index st packet
        beside =
            record {
              twelve = twelve;
              header = b.header;
              ruly = b.ruled;
              room = ltb-false (length index) (4 * h.capacity) room;
              fresh = fresh;
            }

        pub went_on : (x : Indexed) → x ≡ afresh index (packet_step s st packet buf) → x ≡ indexed_step s index st packet buf
        unfolding indexed_step
        went_on x e = rw (eq-eqb _ _ twelve, keeps_of s h b.header, fields_are s h b.header, b.ruled, room, fresh) e

pub ruleset packet_ways = (refused_first, no_room, not_fresh, beside, went_on)
