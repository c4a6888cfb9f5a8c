pub mod Decrypts
pub mod Resumes
pub mod InARow
pub mod Runs
pub mod inner
pub use Decrypts.{Beginning, DecryptAnswers, DecryptEnds, DecryptStops, DecryptsMarked}
pub use Decrypts.{IsWhole, StopsOutside, WritesText, from_start}
pub use Resumes.{Resumption, from_either}
pub use Resumes.{resumption}
pub use Runs.{BelongsTo, CarriesText, FindsMarks, IsMarked, IsPositionWithin}
pub use Runs.{MarksView, OpenedFile, Run}
