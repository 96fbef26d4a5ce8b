-- Sets with the same records have the same winners, the same clashes and the same runs.
use Rattle.cif_calendar.proofs.Names.{IsClash, IsClear, IsClearFrom, IsFirstClash, None, Option, Records, Runs, SameRecords, Some, Terms}
use Rattle.cif_calendar.proofs.Names.{Wins, ℕ}

module _ {B : Type 0} (xs ys : Records B) (e : SameRecords xs ys) where
  pub Wins-same : (d : ℕ) (r : Terms B) → Wins xs d r → Wins ys d r
  Wins-same d r w = record { listed = (e.same r).0 w.listed; applies = w.applies; least = λ s in' on. w.least s ((e.same s).1 in') on }

  pub Wins-same_back : (d : ℕ) (r : Terms B) → Wins ys d r → Wins xs d r
  Wins-same_back d r w = record { listed = (e.same r).1 w.listed; applies = w.applies; least = λ s in' on. w.least s ((e.same s).0 in') on }

  pub IsClear-same : (d : ℕ) → IsClear xs d → IsClear ys d
  IsClear-same d c = record { agree = λ r s v w. c.agree r s (Wins-same_back d r v) (Wins-same_back d s w) }

  pub IsClearFrom-same : (first last : ℕ) → IsClearFrom xs first last → IsClearFrom ys first last
  IsClearFrom-same first last c = record { clear = λ d from upto. IsClear-same d (c.clear d from upto) }

  pub IsClash-same : (d : ℕ) → IsClash xs d → IsClash ys d
  IsClash-same d c = record {
    one = c.one;
    other = c.other;
    one_wins = Wins-same d c.one c.one_wins;
    other_wins = Wins-same d c.other c.other_wins;
    bodies_differ = c.bodies_differ;
  }

  pub IsFirstClash-same : (first last d : ℕ) → IsFirstClash xs first last d → IsFirstClash ys first last d
  IsFirstClash-same first last d c = record {
    from = c.from;
    upto = c.upto;
    clash = IsClash-same d c.clash;
    clear_before = λ f from before. IsClear-same f (c.clear_before f from before);
  }

  pub Runs-same : (d : ℕ) (o : Option B) → Runs xs d o → Runs ys d o
  Runs-same d None n = record { cancelled = λ r w. n.cancelled r (Wins-same_back d r w) }
  Runs-same d (Some b) n = record { winner = n.winner; wins = Wins-same d n.winner n.wins; body = n.body }
