use Rattle.std.proofs.Common.{◌≡◌, ℕ, ◌≤◌, Bool, true, false, List, ◌++◌, length, Some, refl, inr, take, nat_eq, arith}
use Rattle.std.proofs.lemmas.Bool.{lt-ltb, le-ltb}
use Rattle.age_stanza.specs.{Stanza, InBody}
use Rattle.age_stanza.specs.inner.{base64_bytes, step, body_line_result, line_added}
use Rattle.age_stanza.proofs.place.step.add_line.Goals as goal

added_is : (ss : List Stanza) (args : List (List ℕ)) (body more : List ℕ) (full : Bool) → body_line_result ss args body full (Some more)
    ≡ line_added ss args (body ++ more) full
added_is ss args body more true = refl
added_is ss args body more false = refl

added : (ss : List Stanza) (args : List (List ℕ)) (body l more new : List ℕ) → length l ≤ 64 → base64_bytes l ≡ Some more → new ≡ body ++ more
    → step (InBody ss args body) l ≡ line_added ss args new (nat_eq (length l) 64)
unfolding step
added ss args body l more new le is new-is = rw (le-ltb 64 (length l) le, is, new-is) (added_is ss args body more (nat_eq (length l) 64))

pub returns-then-line-gt-COLUMNS : goal.returns-then-line-gt-COLUMNS
unfolding step
returns-then-line-gt-COLUMNS c = inr (λ ss args. rw (lt-ltb 64 (length c.args.line.now) c.if-line-gt-COLUMNS.true) refl)

pub returns-in_default : goal.returns-in_default
unfolding step
returns-in_default c =
    let none = c.in_default.ensures.refused in
    inr (λ ss args. rw (le-ltb 64 (length c.args.line.now) (omega arith), none) refl)

pub returns : goal.returns
returns c =
    let read = c.in-Some.ensures.read in
    λ ss args. added ss args _ c.args.line.now (take c.in-Some.len c.decode_line.new.room) _ (omega arith) read.1 c.in_ok-extend_from_slice.ensures.ok
