-- The parts of a header's text: the letters of an argument, and base64.
use Rattle.std.specs.Prelude.{ℕ, List}
use Rattle.base64.specs.GeneralPurpose.{encode_of}
use Rattle.base64.specs.Engines.{standard_no_pad}
use Rattle.age_stanza.specs.declared.argument.ArgumentBytes.{ArgumentBytes}
use Rattle.age_stanza.specs.declared.argument.ArgumentBytes.TheVariants.{Short, Long}

-- ---- The contract view of an argument.

-- the bytes of an argument
abbrev pub letters_of : ArgumentBytes → List ℕ
letters_of (Short short) = short.items
letters_of (Long long) = long.value.items

-- ---- The text of bytes in a header: base64 (RFC 4648, section 4) without padding.

-- the base64 of some bytes
unfoldable pub base64_text : List ℕ → List ℕ
base64_text bytes = encode_of standard_no_pad bytes
