-- What public contracts cite.
pub mod Text
pub mod Grammar
pub mod Parsing
pub mod Laws
pub mod inner
unfoldable pub use Text.{base64_text}
pub use Grammar.{HasText, HeadText, IsArgument, IsHeader, IsStanza, Spells, argument_line, end_line}
pub use Grammar.{head_text, header_limit, line, mac_text, stanza_text, version}
unfoldable pub use Grammar.{in_lines}
pub use Parsing.{AreLines, Begins, FeedsParser, FirstFault, HasHeader, IsEndLine, IsFault, IsLine}
pub use Parsing.{IsLineFault, IsOpen, IsParsing, NoFault, RefusesBetween, RefusesLine, armor, complete}
pub use Parsing.{line_after, reading, refused, stanzas_text}
pub use Laws.{Alphabet, AnyPieces, FaultsStay, Fed, IsBase64, MacTextIsFront, OneFault, OneHeader, StandsFor}
pub use Laws.{character, more, none, parsing_of}
pub use Rattle.age_fault.specs.HeadFaults.{head_fault_number, head_fault_place, memory_fault}
pub use Rattle.age_fault.specs.declared.head.HeadFault.{HeadFault}
pub use Rattle.age_fault.specs.declared.head.HeadKind.{HeadKind}
pub use Rattle.age_fault.specs.declared.head.HeadKind.TheVariants.{Armored, BadBody, BadEndLine}
pub use Rattle.age_fault.specs.declared.head.HeadKind.TheVariants.{BadStanzaLine, HeadCut, HeadTooLong}
pub use Rattle.age_fault.specs.declared.head.HeadKind.TheVariants.{Memory, NoStanza, NotAge}
pub use Rattle.age_stanza.specs.declared.head_step.HeadStep.{HeadStep}
pub use Rattle.age_stanza.specs.declared.head_step.HeadStep.TheVariants.{More, Ready}
pub use Rattle.age_stanza.specs.declared.header.Header.{Header}
pub use Rattle.age_stanza.specs.declared.header.Stanza.{Stanza}
pub use Rattle.age_stanza.specs.declared.parser.State.TheVariants.{Failed}
pub use Rattle.age_stanza.specs.declared.place.Next.TheVariants.{Go}
pub use Rattle.age_stanza.specs.declared.place.LineState.{LineState}
pub use Rattle.age_stanza.specs.declared.place.LineState.TheVariants.{Between, InBody, Start}
