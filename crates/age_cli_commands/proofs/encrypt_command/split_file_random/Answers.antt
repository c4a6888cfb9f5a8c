use Rattle.std.proofs.Common.{◌≡◌, ◌++◌, ◌∙◌, ap, sym, arith, List, ℕ, drop, length, refl}
use Rattle.std.proofs.lemmas.List.{length-drop, drop-drop, take_all, append_assoc}
use Rattle.age_cli_common.proofs.{cut_in_two, front_length}
use Rattle.age_cli_commands.proofs.encrypt_command.split_file_random.Goals as goal

pub returns : goal.returns
returns c =
    let xs = c.args.bytes.now in
    let ys = c.in_ok-front.front.now in
    let front = c.in_ok-front.ensures.cases in
    let r = c.of.result in
    let size : length ys ≡ 48 = front_length 48 xs ys front.same front.enough in
    let salt = length-drop 16 ys in
    let nonce = length-drop 32 ys in
    let key_is = front_length 16 ys r.file_key c.of.ensures.key (omega arith) in
    let salt_is = front_length 16 (drop 16 ys) r.salt c.of.ensures.salt (omega arith) in
    let nonce_is = front_length 16 (drop 32 ys) r.payload_nonce c.of.ensures.nonce (omega arith) in
    let last : drop 32 ys ≡ r.payload_nonce = sym (c.of.ensures.nonce ∙ take_all 16 (drop 32 ys) (omega arith)) in
    let parts : ys ≡ r.file_key ++ (r.salt ++ r.payload_nonce) =
    cut_in_two 16 ys r.file_key (drop 16 ys) c.of.ensures.key refl
    ∙ ap (λ (t : List ℕ). r.file_key ++ t) (cut_in_two 16 (drop 16 ys) r.salt (drop 32 ys) c.of.ensures.salt (sym (drop-drop 16 16 ys))
    ∙ ap (λ (t : List ℕ). r.salt ++ t) last) in
    record {
      rest = drop 48 xs;
      parts = cut_in_two 48 xs ys (drop 48 xs) front.same refl ∙ ap (λ (t : List ℕ). t ++ drop 48 xs) parts
          ∙ (append_assoc r.file_key (r.salt ++ r.payload_nonce) (drop 48 xs)
          ∙ ap (λ (t : List ℕ). r.file_key ++ t) (append_assoc r.salt r.payload_nonce (drop 48 xs)));
      key_length = key_is;
      salt_length = salt_is;
      nonce_length = nonce_is;
    }
