-- What a full image gives.
-- Assumes nothing.
use Prim.Native.Nat.{ℕ, ◌≤◌}
use mathlib.Core.Bool.{true, false, not}
use mathlib.Core.List.{List}
use mathlib.Core.Path.{◌≡◌, ap, ◌∙◌}
use borrow.Author.Tests.{le-ltb, ltb-false, not-true}
use lib.Dec.{ltb}
use Rattle.std.specs.Prelude.{Some, None}
use Rattle.numbers.proofs.RuleLaws.{split}
use Rattle.image.specs.declared.header.Header.{Header}
use Rattle.image.specs.Header.{fields_of, keeps_header_rules, header_of}
use Rattle.image.proofs.HeaderLaws.{picked, broken_by, good_header}
use Rattle.floppy_parts.specs.Headers.{is_full, full_header_of}

module _ (s : List ℕ) where
  pub full_of : (h : Header) → full_header_of s ≡ Some h → is_full s ≡ true
  unfolding full_header_of
  full_of h e = (picked (is_full s) (fields_of s) h e).0

  pub full_fields : (h : Header) → full_header_of s ≡ Some h → fields_of s ≡ h
  unfolding full_header_of
  full_fields h e = (picked (is_full s) (fields_of s) h e).1

  pub short_of : full_header_of s ≡ None → is_full s ≡ false
  unfolding full_header_of
  short_of e = broken_by (is_full s) (fields_of s) e

  -- a full image keeps the header rules, and its U is its C
  pub full_image : is_full s ≡ true → (keeps_header_rules s ≡ true) × ((fields_of s).capacity ≤ (fields_of s).recorded)
  unfolding is_full
  full_image e =
      let x = split (keeps_header_rules s) (not (ltb (fields_of s).recorded (fields_of s).capacity)) e in
      (x.0, ltb-false _ _ (not-true _ x.1))

  pub full_header : (h : Header) → full_header_of s ≡ Some h → header_of s ≡ Some h
  full_header h e = good_header s (full_image (full_of h e)).0 ∙ ap Some (full_fields h e)

  pub image_full : keeps_header_rules s ≡ true → (fields_of s).capacity ≤ (fields_of s).recorded → is_full s ≡ true
  unfolding is_full
  image_full e l = rw (e, le-ltb _ _ l)
