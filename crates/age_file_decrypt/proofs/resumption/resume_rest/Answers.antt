use Rattle.age_file_input.specs.{view_of_reader}
use Rattle.age_file_decrypt.proofs.resumption.resume_rest.Goals as goal

pub open_payload-requires-clause-room : goal.open_payload-requires-clause-room
open_payload-requires-clause-room g c =
    let skipped = c.in_ok-skip_blocks.ensures.skipped in
    c.requires.room (view_of_reader g.S.Source.view c.skip_blocks.new.reader) skipped.0 skipped.1 skipped.2

pub open_payload-requires-clause-goes_on : goal.open_payload-requires-clause-goes_on
open_payload-requires-clause-goes_on g c = c.in_ok-skip_blocks.ensures.skipped.2.goes_on c.requires.goes_on
