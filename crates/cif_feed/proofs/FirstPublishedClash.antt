-- The first of the keys that have a clash day, and the first of its days, are the first clash.
use Rattle.cif_feed.proofs.Names.{AllPairs, AreAllFound, AreClashDays, AssocKey, Contains, Contains-cases, Contains-first}
use Rattle.cif_feed.proofs.Names.{Contains-get_or, Contains-none, DroppedKey, Holidays, IsTotalOrder, Less, List, Option, Ordering}
use Rattle.cif_feed.proofs.Names.{PublishedParts, PublishedTerms, RisingDays, [], ap, arith, key_cmp, length, map, nat_cmp, not_less}
use Rattle.cif_feed.proofs.Names.{published_associations, published_schedules, refl, slice_cmp, slice_index_or, subst, suc, sym, ℕ}
use Rattle.cif_feed.proofs.Names.{⊎_elim, ◌++◌, ◌+◌, ◌<◌, ◌∙◌, ◌∷◌, ◌≡◌}
use Rattle.cif_extract.specs.declared.fault.Clash.TheVariants as clash
use Rattle.cif_weeks.proofs.Names.{less_one_way}
use Rattle.std.proofs.lemmas.Cmp.{nat_list_cmp_total, on_total, then_total}
use Rattle.cif_feed.specs.Dropped.{AreKeysWithDays, reported_as}
use Rattle.cif_feed.specs.Winners.{AreAssociationsClear, HasNoClash, IsClearAsPublished, IsFirstAsPublished, IsFirstPublishedClash}

-- no member of a rising list is below its first
first-least : (l : List ℕ) → AllPairs ◌<◌ l → 0 < length l → (e : ℕ) → e < slice_index_or l 0 0 → ¬ Contains l e
first-least [] rising some e less has = absurd (omega (arith, some))
first-least (x ∷ xs) rising some e less has = ⊎_elim
    (λ here. omega (arith, here, less))
    (λ later.
    let (i, below, is) = later in
    let up : x < slice_index_or xs i e = rising 0 (suc i) e (omega arith) (omega (arith, below)) in
    omega (arith, up, is, less))
    (Contains-cases x xs e has)

module _ {K B : Type 0} (cmp : K → K → Ordering) (total : IsTotalOrder cmp) (h : Holidays) (entries : List (K × PublishedTerms B))
    (first last : ℕ) (keys : List K) (days : K → List ℕ)
    (are : AreKeysWithDays cmp (AreClashDays h entries first (last + 1)) keys days) where
  -- a key that isn't listed is clear
  unlisted-clear : (k : K) → ¬ Contains keys k → IsClearAsPublished h entries first last k
  unlisted-clear k none d from upto = (are.are k).clear d from (omega (arith, upto))
      (λ has. let (i, below, is) = has in none ((are.each k).1 (omega (arith, below))))

  pub nobody-clear : keys ≡ [] → (k : K) → IsClearAsPublished h entries first last k
  nobody-clear is k = unlisted-clear k (λ has. Contains-none k (subst (λ (l : List K). Contains l k) is has))

  module _ (k : K) (others : List K) (is : keys ≡ k ∷ others) where
    listed : Contains keys k
    listed = subst (λ (l : List K). Contains l k) (sym is) (Contains-first k others)

    -- no key before it is listed
    unlisted : (j : K) → cmp j k ≡ Less → ¬ Contains keys j
    unlisted j less has = ⊎_elim
        (λ here. not_less cmp total j k (sym here) less)
        (λ later.
        let (i, below, at) = later in
        let rising = subst (AllPairs (λ (a : K) (b : K). cmp a b ≡ Less)) is are.rising in
        let up : cmp k (slice_index_or others i j) ≡ Less = rising 0 (suc i) j (omega arith) (omega (arith, below)) in
        less_one_way cmp total j k less (subst (λ (a : K). cmp k a ≡ Less) at up))
        (Contains-cases k others j (subst (λ (l : List K). Contains l j) is has))

    some : 0 < length (days k)
    some = (are.each k).0 listed

    abbrev first_day : ℕ
    first_day = slice_index_or (days k) 0 0

    pub first-as-published : IsFirstAsPublished cmp h entries first last k (slice_index_or (days k) 0 0)
    first-as-published =
        let own = are.are k in
        let day = (own.are first_day).0 (Contains-get_or (days k) 0 0 some) in record {
          from = day.from;
          upto = (let before : first_day < last + 1 = day.before in omega (arith, before));
          clash = day.clash;
          clear_before = λ e from less. own.clear e from
              (let before : first_day < last + 1 = day.before in omega (arith, before, less))
              (first-least (days k) own.rising some e less);
          keys_before = λ j less. unlisted-clear j (unlisted j less);
        }

associations-total : IsTotalOrder key_cmp
associations-total =
    then_total (on_total (λ (a : AssocKey). a.base) nat_list_cmp_total)
    (then_total (on_total (λ (a : AssocKey). a.associated) nat_list_cmp_total)
    (then_total (on_total (λ (a : AssocKey). a.location) nat_list_cmp_total)
    (then_total (on_total (λ (a : AssocKey). a.base_suffix) nat_list_cmp_total)
    (on_total (λ (a : AssocKey). a.associated_suffix) nat_list_cmp_total))))

-- the first of two lists of keys, as they are reported
module _ (h : Holidays) (p : PublishedParts) (all : List DroppedKey) (associations : AssocKey → Option RisingDays)
    (trains : ℕ → Option RisingDays) (found : AreAllFound h p [] all associations trains) where
  abbrev of_associations : List AssocKey → List DroppedKey
  of_associations = map (reported_as clash.Association found.1.days)

  abbrev of_trains : List (List ℕ) → List DroppedKey
  of_trains = map (reported_as clash.Train found.2.days)

  keys_are : all ≡ of_associations found.1.keys ++ of_trains found.2.keys
  keys_are = found.2.added ∙ ap (λ (l : List DroppedKey). l ++ of_trains found.2.keys) found.1.added

  clear_associations : found.1.keys ≡ [] → AreAssociationsClear h p
  clear_associations none = nobody-clear key_cmp associations-total h (published_associations p.associations) p.header.first p.header.last
      found.1.keys found.1.days found.1.are none

  -- which clash the first key has
  first-by : (ks : List AssocKey) → found.1.keys ≡ ks → (us : List (List ℕ)) → found.2.keys ≡ us → (key : DroppedKey)
      → (others : List DroppedKey) → of_associations ks ++ of_trains us ≡ key ∷ others → IsFirstPublishedClash h p key.clash
  first-by (k ∷ ks) are us are_trains key others is =
      let same : reported_as clash.Association found.1.days k ≡ key = cc in
      subst (λ (x : DroppedKey). IsFirstPublishedClash h p x.clash) same
      (first-as-published key_cmp associations-total h (published_associations p.associations) p.header.first p.header.last
      found.1.keys found.1.days found.1.are k ks are)
  first-by [] none (u ∷ us) are key others is =
      let same : reported_as clash.Train found.2.days u ≡ key = cc in
      subst (λ (x : DroppedKey). IsFirstPublishedClash h p x.clash) same (
        clear_associations none,
        first-as-published (slice_cmp nat_cmp) nat_list_cmp_total h (published_schedules p.schedules) p.header.first p.header.last
            found.2.keys found.2.days found.2.are u us are,
      )
  first-by [] none [] neither key others is = absurd (cc)

  pub first-clash : (key : DroppedKey) (others : List DroppedKey) → all ≡ key ∷ others → IsFirstPublishedClash h p key.clash
  first-clash key others is = first-by found.1.keys refl found.2.keys refl key others (sym keys_are ∙ is)

  -- or there is none
  clear-by : (ks : List AssocKey) → found.1.keys ≡ ks → (us : List (List ℕ)) → found.2.keys ≡ us
      → of_associations ks ++ of_trains us ≡ [] → HasNoClash h p
  clear-by [] none [] neither is = record {
    associations = clear_associations none;
    trains = nobody-clear (slice_cmp nat_cmp) nat_list_cmp_total h (published_schedules p.schedules) p.header.first p.header.last
        found.2.keys found.2.days found.2.are neither;
  }
  clear-by [] none (u ∷ us) are is = absurd (cc)
  clear-by (k ∷ ks) are us are_trains is = absurd (cc)

  pub no-clash : all ≡ [] → HasNoClash h p
  no-clash is = clear-by found.1.keys refl found.2.keys refl (sym keys_are ∙ is)
