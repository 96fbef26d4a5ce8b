-- What a call that reads comes to, by what the calls in it do.
use Rattle.cif_extract.proofs.Names.{Err, HasFailedToRead, HasReadOn, IfErr, IfSome, IsErrAnd, IsOwed, IsReadWhole, IsResultOf}
use Rattle.cif_extract.proofs.Names.{IsResultOfBoth, List, MatchBool, MatchResult, None, Ok, Option, ReadCall, Result, Some, Source, Unread}
use Rattle.cif_extract.proofs.Names.{ap, err_from_is_err_and, false, inl, inr, known_so, reader_of, source_failed, subst, sym, unread_of, ℕ}
use Rattle.cif_extract.proofs.Names.{⊎_elim, ◌∙◌, ◌≡◌}

-- a fact of any bytes
pub of_any : (start : Option (List ℕ)) (P : List ℕ → Type 0) → ((bytes : List ℕ) → P bytes) → IfSome start P
of_any None P h = tt
of_any (Some bytes) P h = h bytes

-- ---- the fault that `?` hands on

module _ {A E : Type 0} (result : Result A E) (fault : E) (handed : IsErrAnd result (λ e. e ≡ fault)) where
  pub at-fault : result ≡ Err fault
  at-fault = let (e, is, same) = err_from_is_err_and result handed in is ∙ ap Err same

  -- what holds of it is said of the answer
  pub hands : (P : E → Type 0) → P fault → IfErr result P
  hands P h = rw at-fault h

  pub hands-either : (P : A → Type 0) (Q : E → Type 0) → Q fault → MatchResult result P Q
  hands-either P Q h = rw at-fault h

-- ---- one source

module _ {R : Type 0} (remaining : R → Option (List ℕ)) (errors : R → Option ℕ) (old new : Source R) {B F : Type 0} (may : ReadCall B F)
  where
    -- the result is a fault
    pub refuses : (f : F) → IfSome (remaining (reader_of old)) (λ bytes. may.IsFault bytes (unread_of remaining new) f) → may.MayFail f →
        IsOwed {A = B} errors may.is_read old new (Err f) → IsResultOf remaining errors may old new (Err f)
    refuses f fault answers source = record { ok = of_any _ _ (λ bytes. tt); fault = fault; answers = answers; source = source; end = tt }

    -- or an answer, at the end
    pub answers : (x : B) → IfSome (remaining (reader_of old)) (λ bytes. may.IsAnswer bytes x) → source_failed old ≡ false →
        HasReadOn errors old new → IsReadWhole remaining old new → IsResultOf remaining errors may old new (Ok x)
    answers x ok fresh on read = record {
      ok = ok;
      fault = of_any _ _ (λ bytes. tt);
      answers = tt;
      source = (fresh, on);
      end = λ whole. read;
    }

-- a call that reads, and another that makes its answer of that of the first
module _ {A B F : Type 0} (one : ReadCall A F) (two : ReadCall B F) where
  -- a fault of the first is one of the other
  pub record HandsOn (f : F) : Type 0 where
    pub fault : (bytes : List ℕ) (after : Unread) → one.IsFault bytes after f → two.IsFault bytes after f
    pub answers : one.MayFail f → two.MayFail f
    pub same : one.is_read f ≡ two.is_read f

  -- an answer of the first gives this one
  pub record Makes (x : A) (y : B) : Type 0 where
    pub answer : (bytes : List ℕ) → one.IsAnswer bytes x → two.IsAnswer bytes y
    pub whole : two.IsWhole y → one.IsWhole x

  -- or there is none for this fault, which is none of the source
  pub record Refuses (x : A) (f : F) : Type 0 where
    pub fault : (bytes : List ℕ) (after : Unread) → one.IsAnswer bytes x → two.IsFault bytes after f
    pub answers : two.MayFail f
    pub other : two.is_read f ≡ false

  module _ {R : Type 0} (remaining : R → Option (List ℕ)) (errors : R → Option ℕ) (old new : Source R) where
    pub hands-on : (f : F) → HandsOn f → IsResultOf remaining errors one old new (Err f) → (result : Result B F) →
        IsErrAnd result (λ e. e ≡ f) → IsResultOf remaining errors two old new result
    hands-on f on call result handed =
        subst (IsResultOf remaining errors two old new) (sym (at-fault result f handed))
        (refuses remaining errors old new two f
        (known_so (remaining (reader_of old)) _ _ (λ bytes. on.fault bytes (unread_of remaining new)) call.fault) (on.answers call.answers)
        (subst (λ b. MatchBool b (HasFailedToRead errors old new) (HasReadOn errors old new)) on.same call.source))

    pub goes-on : (x : A) → IsResultOf remaining errors one old new (Ok x) → (result : Result B F) →
        MatchResult result (Makes x) (Refuses x) → IsResultOf remaining errors two old new result
    goes-on x call (Ok y) made = record {
      ok = known_so (remaining (reader_of old)) _ _ made.answer call.ok;
      fault = of_any _ _ (λ bytes. tt);
      answers = tt;
      source = call.source;
      end = λ whole. call.end (made.whole whole);
    }
    goes-on x call (Err f) refused =
        refuses remaining errors old new two f
        (known_so (remaining (reader_of old)) _ _ (λ bytes. refused.fault bytes (unread_of remaining new)) call.ok) refused.answers
        (subst (λ b. MatchBool b (HasFailedToRead errors old new) (HasReadOn errors old new)) (sym refused.other) call.source.1)

-- ---- two sources

module _ {R A B C F : Type 0} (remaining : R → Option (List ℕ)) (errors : R → Option ℕ) (may : ReadCall A F)
    (IsMade : A → A → Result B F → Type 0) (IsMadeToo : A → A → Result C F → Type 0) (left left_new right right_new : Source R) where
  -- a fault is handed on
  pub both-hand-on : (f : F) → ((x y : A) → IsMade x y (Err f) → IsMadeToo x y (Err f)) →
      IsResultOfBoth remaining errors may IsMade left left_new right right_new (Err f) → (result : Result C F) →
      IsErrAnd result (λ e. e ≡ f) → IsResultOfBoth remaining errors may IsMadeToo left left_new right right_new result
  both-hand-on f on call result handed = subst Comes (sym (at-fault result f handed)) (⊎_elim
      (λ l. inl (l.0, same l.0 l.1, l.2, l.3))
      (λ l. inr (l.0, l.1, ⊎_elim (λ r. inl (r.0, same r.0 r.1, r.2)) (λ r. inr (r.0, r.1, on l.0 r.0 r.2)) l.2)) call)
    where
      Comes : Result C F → Type 0
      Comes = IsResultOfBoth remaining errors may IsMadeToo left left_new right right_new

      same : (e : F) → ◌≡◌ {A = Result B F} (Err f) (Err e) → ◌≡◌ {A = Result C F} (Err f) (Err e)
      same e is = let inner : f ≡ e = cc in ap Err inner

  -- an answer is made something of, or refused
  pub both-go-on : (made : B) → IsResultOfBoth remaining errors may IsMade left left_new right right_new (Ok made) →
      (result : Result C F) → ((x y : A) → IsMade x y (Ok made) → IsMadeToo x y result) →
      IsResultOfBoth remaining errors may IsMadeToo left left_new right right_new result
  both-go-on made call result on =
      ⊎_elim (λ l. let no : Ok made ≡ Err l.0 = l.1 in absurd (cc))
      (λ l. inr (l.0, l.1, ⊎_elim (λ r. let no : Ok made ≡ Err r.0 = r.1 in absurd (cc)) (λ r. inr (r.0, r.1, on l.0 r.0 r.2)) l.2)) call
