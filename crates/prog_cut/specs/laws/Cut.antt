-- With what is printed for a line that is cut, all of the input is answered.
use Rattle.std.specs.Prelude.{◌≡◌, refl, List, [], ◌∷◌, ◌++◌, ℕ, ◌≤◌, ◌<◌, length}
use Rattle.std.proofs.Common.{sym, ap, ◌∙◌, arith}
use Rattle.prog_text.specs.Put.{Put}
use Rattle.prog_text.specs.Text.{line}
use Rattle.prog_words.specs.Words.{refused_line}
use Rattle.prog_text.specs.laws.Put.{put_whole}
use Rattle.prog_replies.specs.Input.{parted, last_line, cut_line}
use Rattle.prog_replies.specs.Pieces.{Begun, longest_reply, Cuts}
use Rattle.prog_replies.specs.laws.Begun.{nothing_begun, line_begun}
use Rattle.prog_replies.specs.laws.History.{wrote}

module _ {out out' : List ℕ} {count n : ℕ} (room_for : longest_reply ≤ length out) where
  cuts : {ws : List ℕ} → ((h buffer : List ℕ) → count ≤ length buffer → Begun buffer count h → cut_line h ≡ ws) → Put ws out 0 out' n
      → length ws ≤ longest_reply → Cuts count out out' n
  cuts f p short =
      record {
        wrote = wrote p (omega arith);
        answers = λ table before done buffer k.
            ap (λ (x : List ℕ). done ++ x) (put_whole p (omega arith) ∙ sym (f (parted before).rest buffer k.stored k.begun))
            ∙ ap (λ (x : List ℕ). x ++ cut_line (parted before).rest) k.answers;
      }

  pub cuts_none : count ≡ 0 → Put [] out 0 out' n → Cuts count out out' n
  cuts_none e p = cuts (λ h buffer w a. none h (nothing_begun buffer h count e a)) p (omega arith)
    where
      none : (h : List ℕ) → last_line h ≡ [] → cut_line h ≡ []
      none [] z = refl
      none (b ∷ h) z = let y : ◌≡◌ {A = ℕ} 0 1 = cc in absurd (omega arith)

  pub cuts_line : 0 < count → Put (line refused_line) out 0 out' n → Cuts count out out' n
  cuts_line e p = cuts (λ h buffer w a. one h (line_begun buffer h count e w a)) p (omega arith)
    where
      one : (h : List ℕ) → last_line h ≡ h ∷ [] → cut_line h ≡ line refused_line
      one [] z = let y : ◌≡◌ {A = ℕ} 0 1 = cc in absurd (omega arith)
      one (b ∷ h) z = refl
