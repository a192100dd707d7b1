-- Bytes laid over a part of a list: what READ leaves in a buffer and WRITE in an image.
-- Assumes nothing.
use Rattle.std.specs.Prelude.{ℕ, List, ◌++◌, length, take, drop}

-- s with xs from place a on, in the stead of as many bytes; those before and beyond stay
abbrev pub over : List ℕ → ℕ → List ℕ → List ℕ
over s a xs = take a s ++ (xs ++ drop (length xs) (drop a s))

-- the n bytes of s from place a on
abbrev pub part : List ℕ → ℕ → ℕ → List ℕ
part s a n = take n (drop a s)
