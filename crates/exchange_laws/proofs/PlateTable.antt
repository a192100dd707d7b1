-- The plates of the exchange, computed.
-- Assumes nothing.
use mathlib.Core.Path.{refl}
use Rattle.numbers.specs.Member.{is_in}
use Rattle.numbers.specs.RuleList.{all_hold}
use Rattle.numbers.specs.Words.{word_at, word_bytes}
use Rattle.image.specs.Elements.{kind_of, kind_at, block_at, lay_block, lay_unreadable, lay_mark}
use Rattle.image.specs.Header.{fields_of, keeps_header_rules}
use Rattle.tap.specs.Files.{record_bytes, bytes_of, file_of, met, reads}
use Rattle.tap.specs.Items.{record_at, item_at}
use Rattle.exchange.specs.Exporting.{elements_from, elements_of, exports}
use Rattle.exchange.specs.Importing.{lay_elements, taken_into, imports_as, imports}
use Rattle.exchange_laws.specs.Demands.{ExchangePlates}

pub exchange_plates : ExchangePlates
unfolding exports elements_of elements_from file_of bytes_of record_bytes word_bytes imports imports_as taken_into lay_elements reads met item_at record_at
    word_at keeps_header_rules fields_of all_hold is_in kind_of kind_at block_at lay_block lay_unreadable lay_mark
exchange_plates = (refl, refl)
