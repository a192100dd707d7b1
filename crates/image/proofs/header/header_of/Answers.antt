-- `header::header_of` meets its contract.
use Rattle.image.proofs.HeaderLaws.{ways, has_header, ranges_bound}
use native.Mathlib.Omega.{arith}
use Rattle.image.proofs.header.header_of.Goals as goal

pub fields-h-requires : goal.fields-h-requires
fields-h-requires c = search has_header

pub keeps_places-requires : goal.keeps_places-requires
keeps_places-requires c = let g = ranges_bound c.fields-h.result _ c.keeps_ranges.ensures c.if-keeps_ranges.true in omega arith

pub returns-then-keeps_places : goal.returns-then-keeps_places
returns-then-keeps_places c = search ways

pub returns-else-keeps_places : goal.returns-else-keeps_places
returns-else-keeps_places c = search ways

pub returns-else-keeps_ranges : goal.returns-else-keeps_ranges
returns-else-keeps_ranges c = search ways

pub returns-else-has_fixed_bytes : goal.returns-else-has_fixed_bytes
returns-else-has_fixed_bytes c = search ways
