-- A pose more at the end of a history. Assumes nothing.
use mathlib.Core.Path.{◌≡◌, refl, sym, ap, ◌∙◌, subst}
use mathlib.Core.List.{List, [], ◌∷◌, ◌++◌}
use Prim.Native.Nat.{ℕ}
use lib.Ieee.{Float, Format, binary64}
use Rattle.frames.specs.Floats.{Pose}
use Rattle.running.specs.Running.{Start, running_none, join_of, every_of}
use Rattle.running.specs.History.{Event, join, renew, after}
use Rattle.running.specs.declared.Running.{Running}
use Rattle.rounding.specs.Value.{Value}
use Rattle.running_accuracy.specs.Running.{Step, joins, renews, events, history_of, pose_after, RunningAccurate}
use Rattle.running_accuracy.specs.Running.{PageAccurate}
use Rattle.running_accuracy.specs.Similarity.{SimilarityAccurate}
use Rattle.running_accuracy.specs.Sigma.{SigmaAccurate}
use Rattle.running_accuracy.specs.Scale.{ScaleAccurate}
use Rattle.running_accuracy.specs.Join.{JoinAccurate}
use Rattle.running_accuracy.proofs.Similarity.{similarity_accurate}
use Rattle.running_accuracy.proofs.Sigma.{sigma_accurate}
use Rattle.running_accuracy.proofs.Scale.{scale_accurate}
use Rattle.running_accuracy.proofs.Running.{running_accurate, page_accurate}

events_more : (l : List Step) (x : Pose) (up : Float) (s : Value) →
    events (l ++ (joins x up s ∷ [])) ≡ events l ++ (join x up ∷ [])
unfolding events
events_more [] x up s = refl
events_more (joins y d t ∷ l) x up s = ap (λ (h : List Event). join y d ∷ h) (events_more l x up s)
events_more (renews n ∷ l) x up s = ap (λ (h : List Event). renew n ∷ h) (events_more l x up s)

after_more : (f : Format) (r : Running) (h : List Event) (x : Pose) (up : Float) →
    after f r (h ++ (join x up ∷ [])) ≡ (join_of f (after f r h) x up).running
unfolding after
after_more f r [] x up = refl
after_more f r (join y d ∷ h) x up = after_more f (join_of f r y d).running h x up
after_more f r (renew n ∷ h) x up = after_more f (every_of r n) h x up

-- the pose after the longer history is that of the join
one_more : (f : Format) (n : ℕ) (p : Pose) (first : Float) (l : List Step) (x : Pose) (up : Float) (s : Value)
    (r r' : Running) →
    r ≡ after f running_none (history_of n p first l) → r' ≡ (join_of f r x up).running →
    pose_after f n p first (l ++ (joins x up s ∷ [])) ≡ r'.pose
one_more f n p first l x up s r r' h k =
    ap (λ (e : List Event). (after f running_none (renew n ∷ join p first ∷ e)).pose) (events_more l x up s)
    ∙ ap (λ (q : Running). q.pose) (after_more f running_none (history_of n p first l) x up)
    ∙ ap (λ (q : Running). (join_of f q x up).running.pose) (sym h)
    ∙ ap (λ (q : Running). q.pose) (sym k)

pub join-holds : (r : Running) (x : Pose) (up : Float) (r' : Running) → r' ≡ (join_of binary64 r x up).running →
    JoinAccurate r x up r'
join-holds r x up r' k =
    record {
      pose = λ n p first l s h.
          subst (λ (q : Start). RunningAccurate binary64 n p (l ++ (joins x up s ∷ [])) q)
          (one_more binary64 n p first l x up s r r' h k)
          (running_accurate binary64 n p first (l ++ (joins x up s ∷ [])));
      action = λ n p first l s h.
          subst (λ (q : Start). PageAccurate binary64 n p (l ++ (joins x up s ∷ [])) q)
          (one_more binary64 n p first l x up s r r' h k)
          (page_accurate binary64 n p first (l ++ (joins x up s ∷ [])));
      similarity = λ n p first l s h.
          subst (λ (q : Start). SimilarityAccurate binary64 n p (l ++ (joins x up s ∷ [])) q)
          (one_more binary64 n p first l x up s r r' h k)
          (similarity_accurate binary64 n p first (l ++ (joins x up s ∷ [])));
      sigma = λ n p first l s h.
          subst (λ (q : Start). SigmaAccurate binary64 n p first (l ++ (joins x up s ∷ [])) q)
          (one_more binary64 n p first l x up s r r' h k)
          (sigma_accurate binary64 n p first (l ++ (joins x up s ∷ [])));
      scale = λ n p first l s h.
          subst (λ (q : Start). ScaleAccurate binary64 n p first (l ++ (joins x up s ∷ [])) q)
          (one_more binary64 n p first l x up s r r' h k)
          (scale_accurate binary64 n p first (l ++ (joins x up s ∷ [])));
    }
