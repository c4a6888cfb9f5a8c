-- The words of command lines, and what they ask for.
use Rattle.std.proofs.Common.{◌≡◌, refl, codes, Bool, true, false, List, [], ◌∷◌, Option, Some, None, option_map, map}
use Rattle.clap.specs.Words.{Row, Text, first_of, one_of}
use Rattle.clap.proofs.OnLiterals.{clap_on_literals}
use Rattle.age_cli_args.specs.{age_tool, encrypting, decrypting, resuming, inspecting, drilling, refusals, named, is_given}

abbrev words : List Text
words = codes "decrypt" ∷ codes "--pass=P" ∷ codes "--max-log" ∷ codes "9" ∷ codes "--progress" ∷ codes "A" ∷ codes "B" ∷ []

abbrev parts_asked : Option (Text × List Row) → Option (Text × Option Text × Option Text × Bool × Option Text)
parts_asked = option_map (λ p. (p.0, first_of (codes "OUT") p.1, first_of (codes "save") p.1, is_given (codes "progress") p.1, one_of (codes "max-log") p.1))

pub words_are_taken : refusals words ≡ []
unfolding refusals clap_on_literals age_tool encrypting decrypting resuming inspecting drilling
words_are_taken = refl

pub words_ask : parts_asked (named words) ≡ Some (codes "decrypt", Some (codes "B"), None, true, Some (codes "9"))
unfolding named clap_on_literals age_tool encrypting decrypting resuming inspecting drilling
words_ask = refl

abbrev resuming_words : List Text
resuming_words = codes "resume" ∷ codes "--position" ∷ codes "P" ∷ codes "--old=O" ∷ codes "--shared=S" ∷ codes "--save" ∷ codes "P" ∷ codes "A" ∷ codes
    "B" ∷ []

abbrev texts_asked : List Text → Option (Text × List Row) → Option (Text × List (Option Text))
texts_asked names = option_map (λ p. (p.0, map (λ name. first_of name p.1) names))

pub resuming_words_are_taken : refusals resuming_words ≡ []
unfolding refusals clap_on_literals age_tool encrypting decrypting resuming inspecting drilling
resuming_words_are_taken = refl

pub resuming_words_ask : texts_asked (codes "position" ∷ codes "old" ∷ codes "shared" ∷ codes "save" ∷ codes "IN" ∷ codes "OUT" ∷ []) (named resuming_words)
    ≡ Some (codes "resume", Some (codes "P") ∷ Some (codes "O") ∷ Some (codes "S") ∷ Some (codes "P") ∷ Some (codes "A") ∷ Some (codes "B") ∷ [])
unfolding named clap_on_literals age_tool encrypting decrypting resuming inspecting drilling
resuming_words_ask = refl

pub resuming_words_ask_for_no_progress : option_map (λ (p : Text × List Row). is_given (codes "progress") p.1) (named resuming_words) ≡ Some false
unfolding named clap_on_literals age_tool encrypting decrypting resuming inspecting drilling
resuming_words_ask_for_no_progress = refl
