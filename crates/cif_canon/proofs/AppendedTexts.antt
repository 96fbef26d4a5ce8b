-- Texts that are appended one after another to a sink, and what is answered at the end.
use Rattle.cif_canon.proofs.Names.{Err, Fault, FaultWrites, IfErr, IsAppended, List, Ok, OnOk, Option, Result, Sink, Write, Writes, false}
use Rattle.cif_canon.proofs.Names.{false≢true, inl, inr, sink_failed, subst, sym, true, ℕ, ◌∙◌, ◌≡◌}
pub use Rattle.cif_rows.proofs.AppendedTexts.{all-items, appended, behind, both, nothing, one-more, text-is}

module _ {W : Type 0} (contents : W → Option (List ℕ)) (errors : W → Option ℕ) where
  -- what is answered at the end
  pub answered : {A : Type 0} (text : List ℕ) (s t : Sink W) (result : Result A Fault) → OnOk result (sink_failed t ≡ false) →
      IfErr result (λ _. sink_failed t ≡ true) → IsAppended contents errors text s t → Writes contents errors text s t result
  answered text s t (Ok done) ok failed (inl h) = h
  answered text s t (Ok done) ok failed (inr h) = absurd (false≢true (sym ok ∙ h.failed))
  answered text s t (Err fault) ok failed (inl h) = absurd (false≢true (sym h.going ∙ failed))
  answered text s t (Err fault) ok failed (inr h) = h

  pub fault-answered : {A : Type 0} (text : List ℕ) (s t : Sink W) (result : Result A Fault) → OnOk result (sink_failed t ≡ false) →
      IfErr result (λ _. sink_failed t ≡ true) → IfErr result (λ fault. fault ≡ Write) → IsAppended contents errors text s t →
      FaultWrites contents errors text s t result
  fault-answered text s t (Ok done) ok failed fault h = answered text s t (Ok done) ok failed h
  fault-answered {A = A} text s t (Err why) ok failed fault h =
      subst (λ (f : Fault). FaultWrites {A = A} contents errors text s t (Err f)) (sym fault)
      (answered {A = A} text s t (Err why) ok failed h)
