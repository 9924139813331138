-- On specs/Replies.antt, for the writers: lengths of what replies are made of, and a list of numbers that is written
-- one by one.
use Rattle.std.proofs.Common.{◌≡◌, ℕ, ◌+◌, ◌*◌, ◌<◌, List, [], ◌∷◌, ◌++◌, length, take, drop, get_or, refl, sym, ap, ◌∙◌, subst, arith, length-append, take-append-drop}
use Rattle.std.proofs.lemmas.List.{take_more, append-nil}
use Rattle.std.proofs.lemmas.List.Concat.{flat_map-append}
use Rattle.std.specs.List.{flat_map}
use Rattle.std.specs.Int.{w32, w64, to_le_bytes}
use Rattle.sd_io.specs.States.{Output}
use Rattle.sd_io.specs.Causes.{Gains, GainsFront}
use Rattle.session_frames.specs.declared.reply.Reply.{Reply}
use Rattle.session_frames.specs.Replies.{answer_bytes, content_bytes, reply_bytes}
use Rattle.session_frames.specs.ReplyLayout.{head_bytes}
use Rattle.sd_io.proofs.CausesLemmas.{front_after, front_before}

-- four bytes a number
pub length-path : (path : List ℕ) → length (flat_map (to_le_bytes w32) path) ≡ 4 * length path
length-path [] = refl
length-path (number ∷ path) =
    omega (arith, length-path path, length-append (to_le_bytes w32 number) (flat_map (to_le_bytes w32) path))

module _ (f : ℕ → List ℕ) (old mid new : Output) (xs : List ℕ) (i : ℕ) (inside : i < length xs)
    (written : Gains old mid (flat_map f (take i xs))) where
  front_so_far : flat_map f (take (i + 1) xs) ≡ flat_map f (take i xs) ++ f (get_or xs i 0)
  front_so_far =
      ap (flat_map f) (take_more xs i 0 inside) ∙ flat_map-append f (take i xs) (get_or xs i 0 ∷ [])
      ∙ ap (λ l. flat_map f (take i xs) ++ l) (append-nil (f (get_or xs i 0)))

  -- one more is written in part
  pub GainsFront-flat_map : GainsFront mid new (f (get_or xs i 0)) → GainsFront old new (flat_map f xs)
  GainsFront-flat_map part =
      let so_far = subst (GainsFront old new) (sym front_so_far)
      (front_after old mid new (flat_map f (take i xs)) (f (get_or xs i 0)) written part) in
      let whole : flat_map f xs ≡ flat_map f (take (i + 1) xs) ++ flat_map f (drop (i + 1) xs) =
      ap (flat_map f) (sym (take-append-drop (i + 1) xs)) ∙ flat_map-append f (take (i + 1) xs) (drop (i + 1) xs) in
      subst (GainsFront old new) (sym whole) (front_before old new (flat_map f (take (i + 1) xs))
      (flat_map f (drop (i + 1) xs)) so_far)

length-content : (reply : Reply) → length (content_bytes reply) ≡ 13 + length (answer_bytes reply.body)
length-content reply = omega arith

-- a framed reply is what stands in front of the body, and the body
pub reply_bytes-parts : (reply : Reply) → reply_bytes reply ≡ head_bytes reply ++ answer_bytes reply.body
reply_bytes-parts reply = ap (λ n. to_le_bytes w64 n ++ content_bytes reply) (length-content reply)
