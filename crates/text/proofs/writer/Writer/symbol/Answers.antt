-- The symbol that is shown, in UTF-8.
use Rattle.text.specs.Utf8.{symbol_bytes}
use Rattle.text.proofs.Scalars.{encode-utf8}
use Rattle.text.proofs.writer.Writer.symbol.Goals as goal

pub returns : goal.returns
unfolding symbol_bytes
returns c =
    rw (c.as_bytes.ensures.value, c.encode_utf8-text.ensures.value, c.shown_symbol.ensures, encode-utf8) at c.bytes.ensures
