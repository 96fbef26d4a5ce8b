-- There are no clashes exactly where the extract is clear, and the first of them is the first clash.
use Rattle.cif_views.proofs.Names.{AreAllClashes, AreClashes, AreClear, AssocKey, Association, Clash, Contains, Contains-first}
use Rattle.cif_views.proofs.Names.{Contains-none, Equal, ExtractParts, IsClearExtract, IsFirstClashIn, IsFirstClashOf, IsTotalOrder, Less}
use Rattle.cif_views.proofs.Names.{List, Ordering, Schedule, Some, Terms, [], ap, arith, association_clash, association_entries}
use Rattle.cif_views.proofs.Names.{association_entry, bytes_decides, first_clash-clear, is_eq, key_cmp, keys-total, less_one_way, map}
use Rattle.cif_views.proofs.Names.{nat_cmp, nat_list_cmp_total, not_less, of_key, refl, same-keys, same_Some, schedule_entries}
use Rattle.cif_views.proofs.Names.{schedule_entry, slice_cmp, slice_get, subst, suc, sym, texts_ties, train_clash, zero, ℕ, ◌++◌, ◌↔◌, ◌∙◌}
use Rattle.cif_views.{proofs.Names.◌∷◌, proofs.Names.◌≡◌, specs.Steps.Clashes.AreAdded}
use Rattle.cif_records.specs.declared.header.Header.{Header}
use Rattle.cif_extract.specs.declared.fault.Clash.TheVariants as named
use Rattle.cif_calendar.proofs.FirstClash.{IsFirstClashOf-clear, IsFirstClashOf-day, IsFirstClashOf-key}

-- bytes that compare equal are equal
same-bytes : (xs ys : List ℕ) → slice_cmp nat_cmp xs ys ≡ Equal → xs ≡ ys
same-bytes xs ys e = (bytes_decides xs ys).0 (texts_ties xs ys ∙ ap is_eq e)

module _ {K B : Type 0} (cmp : K → K → Ordering) (es : List (K × Terms B)) (first last : ℕ) where
  -- no clashes: all is clear
  none-found : AreClashes cmp es first last [] → AreClear es first last
  none-found a = record { key = λ k. a.others k (λ d in'. Contains-none (k, d) in') }

  module _ (x : K × ℕ) (xs : List (K × ℕ)) (a : AreClashes cmp es first last (x ∷ xs)) where
    some-found : AreClear es first last → ⊥
    some-found clear = first_clash-clear (of_key es x.0) first last x.1 (a.clashes x.0 x.1 (Contains-first x xs)) (clear.key x.0)

    -- the first key found has no clash before it
    head-before : IsTotalOrder cmp → (j : K) → cmp j x.0 ≡ Less → (d : ℕ) → Contains (x ∷ xs) (j, d) → ⊥
    head-before total j less d (zero, below, is) = not_less cmp total j x.0 (sym (ap (λ (y : K × ℕ). y.0) is)) less
    head-before total j less d (suc i, below, is) =
        less_one_way cmp total j x.0 less
        (subst (λ (y : K × ℕ). cmp x.0 y.0 ≡ Less) is (a.rising zero (suc i) (j, d) (omega arith) below))

    head-first : IsTotalOrder cmp → IsFirstClashOf cmp es first last x.0 x.1
    head-first total = record {
      clash = a.clashes x.0 x.1 (Contains-first x xs);
      clear_before = λ j less. a.others j (λ d in'. head-before total j less d in');
    }

module _ (x : ExtractParts) where
  abbrev AreOfAssociations : List (AssocKey × ℕ) → Type 0
  AreOfAssociations found = AreClashes key_cmp (association_entries x.associations) x.header.first x.header.last found

  abbrev AreOfTrains : List (List ℕ × ℕ) → Type 0
  AreOfTrains found = AreClashes (slice_cmp nat_cmp) (schedule_entries x.schedules) x.header.first x.header.last found

  abbrev both-named : List (AssocKey × ℕ) → List (List ℕ × ℕ) → List Clash
  both-named ks ts = map association_clash ks ++ map train_clash ts

  named-clear : (ks : List (AssocKey × ℕ)) (ts : List (List ℕ × ℕ)) → AreOfAssociations ks → AreOfTrains ts →
      (both-named ks ts ≡ []) ↔ IsClearExtract x
  named-clear [] [] a t = (
    λ e. record {
      associations = none-found key_cmp (association_entries x.associations) x.header.first x.header.last a;
      schedules = none-found (slice_cmp nat_cmp) (schedule_entries x.schedules) x.header.first x.header.last t;
    },
    λ clear. refl,
  )
  named-clear [] (z ∷ zs) a t = (
    λ e. absurd (cc),
    λ clear. absurd (some-found (slice_cmp nat_cmp) (schedule_entries x.schedules) x.header.first x.header.last z zs t clear.schedules),
  )
  named-clear (y ∷ ys) ts a t = (
    λ e. absurd (cc),
    λ clear. absurd (some-found key_cmp (association_entries x.associations) x.header.first x.header.last y ys a clear.associations),
  )

  -- an extract that is clear has no first clash
  clear-first : IsClearExtract x → (clash : Clash) → IsFirstClashIn x clash → ⊥
  clear-first clear (named.Association k d) p =
      IsFirstClashOf-clear key_cmp keys-total same-keys (association_entries x.associations) x.header.first x.header.last k d p
      clear.associations
  clear-first clear (named.Train u d) p =
      IsFirstClashOf-clear (slice_cmp nat_cmp) nat_list_cmp_total same-bytes (schedule_entries x.schedules) x.header.first x.header.last u d
      p.1 clear.schedules

  -- the clash of an association comes first
  association-first : (y : AssocKey × ℕ) (ys : List (AssocKey × ℕ)) → AreOfAssociations (y ∷ ys) → (clash : Clash) →
      IsFirstClashIn x clash → association_clash y ≡ clash
  association-first y ys a (named.Association k d) p =
      let es = association_entries x.associations in
      let q = head-first key_cmp es x.header.first x.header.last y ys a keys-total in
      let key : y.0 ≡ k = IsFirstClashOf-key key_cmp keys-total same-keys es x.header.first x.header.last y.0 k y.1 d q p in
      let day : y.1 ≡ d = IsFirstClashOf-day key_cmp keys-total same-keys es x.header.first x.header.last y.0 k y.1 d q p in
      ap (λ j. named.Association j y.1) key ∙ ap (λ e. named.Association k e) day
  association-first y ys a (named.Train u d) p =
      absurd (some-found key_cmp (association_entries x.associations) x.header.first x.header.last y ys a p.0)

  -- or else that of a train
  train-first : AreOfAssociations [] → (z : List ℕ × ℕ) (zs : List (List ℕ × ℕ)) → AreOfTrains (z ∷ zs) → (clash : Clash) →
      IsFirstClashIn x clash → train_clash z ≡ clash
  train-first a z zs t (named.Association k d) p =
      let es = association_entries x.associations in
      absurd (IsFirstClashOf-clear key_cmp keys-total same-keys es x.header.first x.header.last k d p
      (none-found key_cmp es x.header.first x.header.last a))
  train-first a z zs t (named.Train u d) p =
      let es = schedule_entries x.schedules in
      let q = head-first (slice_cmp nat_cmp) es x.header.first x.header.last z zs t nat_list_cmp_total in
      let key : z.0 ≡ u =
      IsFirstClashOf-key (slice_cmp nat_cmp) nat_list_cmp_total same-bytes es x.header.first x.header.last z.0 u z.1 d q p.1 in
      let day : z.1 ≡ d =
      IsFirstClashOf-day (slice_cmp nat_cmp) nat_list_cmp_total same-bytes es x.header.first x.header.last z.0 u z.1 d q p.1 in
      ap (λ j. named.Train j z.1) key ∙ ap (λ e. named.Train u e) day

  named-first : (ks : List (AssocKey × ℕ)) (ts : List (List ℕ × ℕ)) → AreOfAssociations ks → AreOfTrains ts → (clash : Clash) →
      (slice_get (both-named ks ts) 0 ≡ Some clash) ↔ IsFirstClashIn x clash
  named-first [] [] a t clash = (λ e. absurd (cc), λ p. absurd (clear-first ((named-clear [] [] a t).0 refl) clash p))
  named-first [] (z ∷ zs) a t clash = (
    λ e. subst (IsFirstClashIn x) (same_Some (train_clash z) clash e) (
      none-found key_cmp (association_entries x.associations) x.header.first x.header.last a,
      head-first (slice_cmp nat_cmp) (schedule_entries x.schedules) x.header.first x.header.last z zs t nat_list_cmp_total,
    ),
    λ p. ap Some (train-first a z zs t clash p),
  )
  named-first (y ∷ ys) ts a t clash = (
    λ e. subst (IsFirstClashIn x) (same_Some (association_clash y) clash e)
        (head-first key_cmp (association_entries x.associations) x.header.first x.header.last y ys a keys-total),
    λ p. ap Some (association-first y ys a clash p),
  )

  module _ (clashes : List Clash) (all : AreAllClashes x clashes) where
    pub clashes-clear : (clashes ≡ []) ↔ IsClearExtract x
    clashes-clear = let is = named-clear all.associations all.trains all.of_associations all.of_trains in
        (λ e. is.0 (sym all.are ∙ e), λ clear. all.are ∙ is.1 clear)

    pub clashes-first : (clash : Clash) → (slice_get clashes 0 ≡ Some clash) ↔ IsFirstClashIn x clash
    clashes-first clash =
        subst (λ (cs : List Clash). (slice_get cs 0 ≡ Some clash) ↔ IsFirstClashIn x clash) (sym all.are)
        (named-first all.associations all.trains all.of_associations all.of_trains clash)

-- the clashes of a slice, in the window of two dates, are those of the extract's entries and header
added-of_slice : {X K B : Type 0} (cmp : K → K → Ordering) (name : K → ℕ → Clash) (entry : X → K × Terms B) (h : Header) (first last : ℕ)
    (xs ys : List X) (known all : List Clash) → first ≡ h.first → last ≡ h.last → xs ≡ ys →
    AreAdded cmp name (map entry xs) first last known all → AreAdded cmp name (map entry ys) h.first h.last known all
added-of_slice cmp name entry h first last xs ys known all f l is a =
    subst (λ zs. AreAdded cmp name (map entry zs) h.first h.last known all) is
    (subst (λ n. AreAdded cmp name (map entry xs) h.first n known all) l
    (subst (λ n. AreAdded cmp name (map entry xs) n last known all) f a))

-- the clashes of associations, and then those of trains, are all of an extract
pub all-found : (x : ExtractParts) (first last : ℕ) (associations : List Association) (schedules : List Schedule)
    (none some all : List Clash) → first ≡ x.header.first → last ≡ x.header.last → associations ≡ x.associations →
    schedules ≡ x.schedules → none ≡ [] →
    AreAdded key_cmp named.Association (association_entries associations) first last none some →
    AreAdded (slice_cmp nat_cmp) named.Train (schedule_entries schedules) first last some all → AreAllClashes x all
all-found x first last associations schedules none some all f l as_is ss_is empty a t =
    let ks = added-of_slice key_cmp named.Association association_entry x.header first last associations x.associations none some f l
    as_is a
    in
    let ts = added-of_slice (slice_cmp nat_cmp) named.Train schedule_entry x.header first last schedules x.schedules some all f l ss_is t in
    record {
      associations = ks.found;
      of_associations = ks.clashes;
      trains = ts.found;
      of_trains = ts.clashes;
      are = ts.added ∙ ap (λ (cs : List Clash). cs ++ map train_clash ts.found)
          (ks.added ∙ ap (λ (cs : List Clash). cs ++ map association_clash ks.found) empty);
    }
