-- What a good list of tape parameters says.
-- Assumes nothing.
use Prim.Native.Nat.{ℕ, ◌≤◌}
use mathlib.Core.Bool.{true, ◌&&◌}
use mathlib.Core.List.{List}
use mathlib.Core.Path.{◌≡◌}
use borrow.Author.Tests.{leb-true}
use lib.Dec.{leb, eqb}
use Rattle.image.specs.declared.header.Header.{Header}
use Rattle.numbers.proofs.RuleLaws.{split}
use Rattle.floppy_parts.specs.Replies.{tape_page, tape_page_length}
use Rattle.floppy_parts.specs.Settings.{good_tape_list}
use Rattle.floppy_parts.specs.Tape.{product, page_byte, listed_tape}

pub good_within : (h : Header) (list : List ℕ) → good_tape_list h list ≡ true → product (listed_tape list) ≤ h.capacity
unfolding good_tape_list
good_within h list e =
    let pages = eqb (page_byte list 0) tape_page && eqb (page_byte list 1) tape_page_length in
    leb-true (product (listed_tape list)) h.capacity (split pages (leb (product (listed_tape list)) h.capacity) e).1
