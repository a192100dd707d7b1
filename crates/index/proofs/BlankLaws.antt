-- The loop over the bytes after the entries: what is left to look at gives what all of them give.
-- Assumes nothing.
use mathlib.Core.Path.{◌≡◌}
use mathlib.Core.Bool.{Bool, true, false, ◌&&◌}
use mathlib.Core.List.{List}
use Prim.Native.Nat.{ℕ, ◌+◌, ◌<◌, ◌≤◌}
use native.Mathlib.Numerals.{add-one}
use lib.ListN.{length, get_or, drop, drop_of_length-le}
use lib.Seq.{drop-cons}
use Rattle.numbers.specs.Choice.{◌≡ᵇ◌}
use Rattle.index.specs.Checking.{are_blank}

pub blank_next : (bytes : List ℕ) (i : ℕ) (b : Bool) → i < length bytes → (b && are_blank (drop i bytes)) ≡ are_blank bytes
    → ((b && (get_or bytes i 0 ≡ᵇ 0xff)) && are_blank (drop (i + 1) bytes)) ≡ are_blank bytes
blank_next bytes i true h e = rw add-one (rw (drop-cons bytes i 0 h) at e)
blank_next bytes i false h e = e

pub blank_done : (bytes : List ℕ) (i : ℕ) (b : Bool) → length bytes ≤ i → (b && are_blank (drop i bytes)) ≡ are_blank bytes → b ≡ are_blank bytes
blank_done bytes i true h e = rw (drop_of_length-le bytes h) at e
blank_done bytes i false h e = e
