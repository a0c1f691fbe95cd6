-- Two feeds are one of all their words, whatever the session and the buffers: where one is refused, all are.
use mathlib.Core.Path.{◌≡◌, refl, sym, ap, ◌∙◌}
use mathlib.Core.Bool.{true}
use mathlib.Core.List.{List, [], ◌∷◌, ◌++◌, append-nil, flat_map}
use Prim.Native.Nat.{ℕ, zero, suc}
use Rattle.bits.specs.Words.{words10}
use Rattle.bits.proofs.Words.{words10_append}
use Rattle.session.specs.declared.Session.{Session}
use Rattle.session.specs.Session.{feed_refusal, fed, fed_y, fed_c}
use Rattle.session.proofs.Refusing.{feed_taken}
use Rattle.law_module.specs.Runs.{Bench, fed_once, fed_all}
use Rattle.law_module.proofs.Cuts.{fed_all_of_pieces}

-- "A refusal .. changes no buffer and no session."
fed_once-refused : (ws : List ℕ) (x : Bench) (n : ℕ) → feed_refusal x.session ws x.y x.c ≡ suc n → fed_once ws x ≡ x
unfolding fed fed_y fed_c
fed_once-refused ws x n e = rw e

-- the words decide nothing as long as none is above 3FF
feed_refusal_of_lawful : (s : Session) (ws vs y c : List ℕ) → words10 ws ≡ true → words10 vs ≡ true → feed_refusal s ws y c ≡ feed_refusal s vs y c
unfolding feed_refusal
feed_refusal_of_lawful s ws vs y c w v = rw (w, v)

pub fed_once_twice : (a b : List ℕ) (x : Bench) → words10 a ≡ true → words10 b ≡ true → fed_once b (fed_once a x) ≡ fed_once (a ++ b) x
unfolding fed_all flat_map
fed_once_twice a b x wa wb = go (feed_refusal x.session a x.y x.c) refl
  where
    both : words10 (a ++ b) ≡ true
    both = words10_append a b wa ∙ wb

    go : (n : ℕ) → feed_refusal x.session a x.y x.c ≡ n → fed_once b (fed_once a x) ≡ fed_once (a ++ b) x
    go zero e =
        let all : a ++ (b ++ []) ≡ a ++ b = ap (λ (l : List ℕ). a ++ l) (append-nil b) in
        fed_all_of_pieces (a ∷ b ∷ []) x (feed_taken x.session a x.y x.c e).0 (ap words10 all ∙ both)
        ∙ ap (λ (l : List ℕ). fed_once l x) all
    go (suc n) e = ap (fed_once b) (refused a wa) ∙ refused b wb ∙ sym (refused (a ++ b) both)
      where
        refused : (ws : List ℕ) → words10 ws ≡ true → fed_once ws x ≡ x
        refused ws w = fed_once-refused ws x n (feed_refusal_of_lawful x.session ws a x.y x.c w wa ∙ e)
