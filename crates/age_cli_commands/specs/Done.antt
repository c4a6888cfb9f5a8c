-- What a command leaves that is done: read this first.
use Rattle.std.specs.Prelude.{◌≡◌, ℕ, true, List, [], ◌∷◌, Option, Some, None, ◌++◌, ◌⊎◌, IfSome, ◌<◌}
use Rattle.std.specs.Prelude.{Contains, false, ◌*◌, length, take, drop}
use Rattle.clap.specs.Words.{Text}
use Rattle.age_host_model.specs.declared.options.ClobberOption.TheVariants.{Refused}
use Rattle.age_host_model.specs.declared.options.Durability.TheVariants.{Synced}
use Rattle.age_stanza.specs.{HeadText}
use Rattle.age_stanza.specs.declared.header.Header.{Header}
use Rattle.age_chunk.specs.{chunk_length, chunk_count, block_length, payload}
use Rattle.age_keys.specs.{Opens, FileOf, box}
use Rattle.age_file_position.specs.{position_text}
use Rattle.age_file_position.specs.declared.position.Position.{Position}
use Rattle.age_file_encrypt.specs.{SecretView, AgeFile}
use Rattle.age_file_decrypt.specs.{OpenedFile, BelongsTo, CarriesText}
use Rattle.age_host_model.specs.{EndedFile, IsAtName, IsAtPathWithBytes, IsDurable, Opened, AllAnswered}
use Rattle.age_host_model.specs.Disk.{Disk}
use Rattle.age_host_model.specs.declared.opened.FileKind.TheVariants.{Regular}
use Rattle.age_cli_files.specs.{FilesView, Outcome, Absent, NotedSince, PutsOnly, entry, puts_in}
use Rattle.age_cli_args.specs.declared.request.Paths.{Paths}
use Rattle.age_cli_args.specs.declared.request.Request.{Request}
use Rattle.age_cli_args.specs.declared.request.Request.TheVariants.{Encrypt, Decrypt, Resume}
use Rattle.age_cli_common.specs.{allows_by, MakesBy}
use Rattle.age_cli_common.specs.declared.identity.Identity.{Identity}
use Rattle.age_cli_commands.specs.Commands.{MakesSecret}

-- ---- What was read, and what was asked.

-- Between two states of a set of files, this outcome came, before anything was put.
pub record CameFirst (old new : FilesView) (outcome : Outcome) : Type 0 where
  pub came : NotedSince old new outcome
  pub first : puts_in came.before ≡ []

-- The files of a request, if it writes one.
abbrev pub paths_of : Request → Option Paths
paths_of (Encrypt e) = Some e.paths
paths_of (Decrypt d) = Some d.paths
paths_of (Resume r) = Some r.decrypting.paths
paths_of other = None

-- ---- Which bytes are the age file of a plaintext, or go on with it.

-- An age file of this plaintext, which the identity opens.
pub record IsFileBy (identity : Identity) (text bytes : List ℕ) : Type 0 where
  pub header : Header
  pub key : List ℕ
  pub nonce : List ℕ
  pub file : FileOf header key nonce text bytes
  pub opens : Opens (allows_by identity) header key

-- The rest of an age file from a position on: the header and the nonce of the position's file,
-- which the identity opens; as many bytes as the blocks before the position have; and then the
-- plaintext's payload from there on.
pub record IsRestBy (identity : Identity) (p : Position) (text bytes : List ℕ) : Type 0 where
  pub file : OpenedFile
  pub own : BelongsTo p file
  pub head : HeadText file.header file.header_bytes
  pub opens : Opens (allows_by identity) file.header file.key
  pub size : length file.nonce ≡ 16
  pub below : p.index < chunk_count chunk_length text
  pub skipped : List ℕ
  pub skipped_size : length skipped ≡ p.index * block_length
  pub parts : bytes ≡ (file.header_bytes ++ file.nonce) ++ (skipped
      ++ drop (p.index * block_length) (payload (box file.key file.nonce) chunk_length text))

-- ---- What a command leaves that is done. All of a named file is `GaveAll`, its beginning `Gave`; OUT `Is` these bytes.

module _ (GaveAll Gave : Text → List ℕ → Type 0) (Is : Paths → List ℕ → Type 0) where
  -- After `encrypt`, OUT is the age file of IN for the passphrase and the random bytes that are
  -- named. After `decrypt`, IN is an age file of OUT, which the options open. After `resume`, the
  -- earlier output begins with the chunks of OUT before the position, whose hash chain the position
  -- carries, and IN is the rest.
  abbrev pub LeavesFor : Request → Type 0
  LeavesFor (Encrypt e) = (secret : SecretView) × MakesSecret GaveAll Gave e secret
      × (text : List ℕ) × (file : List ℕ) × GaveAll e.paths.from.now text × AgeFile secret text file
      × Is e.paths file
  LeavesFor (Decrypt d) = (identity : Identity) × MakesBy GaveAll d.identity identity
      × (text : List ℕ) × (file : List ℕ) × GaveAll d.paths.from.now file × IsFileBy identity text file
      × Is d.paths text
  LeavesFor (Resume r) = let d = r.decrypting in
      (identity : Identity) × MakesBy GaveAll d.identity identity
      × (p : Position) × GaveAll r.position.now (position_text p)
      × (text : List ℕ) × (rest : List ℕ) × CarriesText text p
      × (0 < p.index → (more : List ℕ) × Gave r.old.now (take (p.index * chunk_length) text ++ more))
      × GaveAll d.paths.from.now rest × IsRestBy identity p text rest × Is d.paths text
  LeavesFor other = Unit {0}

-- ---- What OUT holds then, over any set of files.

-- Some disk answers the calls of a regular file, so that what is said of each disk that answers
-- isn't said of none. A file that was opened without a name is on no path.
-- (in any order: no disk answers such a call, wherever it stands)
abbrev pub IsAnsweredOnce : EndedFile → Type 0
IsAnsweredOnce e = IfSome e.file (λ f. ((disk : Disk) × AllAnswered f.path e.calls disk)
    ⊎ Contains e.calls (Opened f.path f.number (Regular false)))

-- OUT was closed with just these bytes, and nothing else was put. It is at its path, and on the
-- disk if it was to be synced; and a disk answers. Nothing had its name before, if an existing file
-- is refused.
pub record OutHolds (before after : FilesView) (p : Paths) (bytes : List ℕ) : Type 0 where
  pub fresh : p.clobber ≡ Refused → CameFirst before after (Absent p.to.now)
  pub put : PutsOnly (entry p.to.now bytes ∷ []) before after
  pub out : EndedFile
  pub is : after.ended ≡ Some out
  pub took : out.took ≡ bytes
  pub closed : out.is_closed ≡ true
  pub at : IsAtName p.to.now out
  pub there : IsAtPathWithBytes out
  pub safe : p.durability ≡ Synced → IsDurable out
  pub answered : IsAnsweredOnce out
