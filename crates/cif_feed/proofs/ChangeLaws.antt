-- What changes leave of each key, and in which order.
use Rattle.cif_feed.proofs.Names.{Action, All, All-head, All-tail, AreAfter, Bool, ChangeParts, HaveLastWord, IsEquivalence, IsTrue, List}
use Rattle.cif_feed.proofs.Names.{None, Option, Ordering, RecordChange, Some, TellsSame, [], after_all, after_change, ap, append-nil}
use Rattle.cif_feed.proofs.Names.{append_assoc, changes_of, cond, eq_by_cmp, false, filter, filter-append, filter_agree, is_changed}
use Rattle.cif_feed.proofs.Names.{is_there, key_of, keyed_record, last_word, not, option_to_list, put_last, put_of, refl, refusal, refusals}
use Rattle.cif_feed.proofs.Names.{same_by, same_values, sym, true, untouched, with_keys, without_key, ◌&&◌, ◌++◌, ◌||◌, ◌↔◌, ◌∙◌, ◌∷◌, ◌≡◌}
use Rattle.cif_feed.{proofs.Names.◌≢◌, proofs.ListSteps.filter-map, specs.Changes.of_key}
use Rattle.cif_feed.specs.declared.changes.Action.TheVariants.{Deleted, New, Revised}

module _ {A : Type 0} where
  -- a filter after a filter
  pub filter-filter : (p q : A → Bool) (xs : List A) → filter p (filter q xs) ≡ filter (λ x. q x && p x) xs
  filter-filter p q [] = refl
  filter-filter p q (x ∷ xs) = at (q x) (filter-filter p q xs)
    where
      at : (b : Bool) → filter p (filter q xs) ≡ filter (λ y. q y && p y) xs → filter p (cond b (x ∷ filter q xs) (filter q xs))
          ≡ cond (b && p x) (x ∷ filter (λ y. q y && p y) xs) (filter (λ y. q y && p y) xs)
      at true more = ap (λ l. cond (p x) (x ∷ l) l) more
      at false more = more

  -- where nothing passes
  filter-nothing : (p : A → Bool) → ((x : A) → p x ≡ false) → (xs : List A) → filter p xs ≡ []
  filter-nothing p none [] = refl
  filter-nothing p none (x ∷ xs) = ap (λ b. cond b (x ∷ filter p xs) (filter p xs)) (none x) ∙ filter-nothing p none xs

never : (b : Bool) → (not b && b) ≡ false
never true = refl
never false = refl

neither : (b c : Bool) → (not b && not c) ≡ not (b || c)
neither true c = refl
neither false c = refl

module _ {K I : Type 0} (same : K → K → Bool) where
  -- a record that is put, by a test of its key
  put-passes : (p : K → Bool) (key : K) (o : Option I) → p key ≡ true
      → filter (λ (r : K × I). p r.0) (keyed_record key o) ≡ keyed_record key o
  put-passes p key None is = refl
  put-passes p key (Some item) is = ap (λ b. cond b ((key, item) ∷ []) []) is

  put-fails : (p : K → Bool) (key : K) (o : Option I) → p key ≡ false → filter (λ (r : K × I). p r.0) (keyed_record key o) ≡ []
  put-fails p key None is = refl
  put-fails p key (Some item) is = ap (λ b. cond b ((key, item) ∷ []) []) is

  module _ (laws : IsEquivalence same) where
    -- a change of this key leaves what it puts, and another leaves what was there
    pub of_key-after : (records : List (K × I)) (c : ChangeParts K I) (key : K) (b : Bool) → same c.key key ≡ b
        → of_key same (after_change same records c) key ≡ cond b (keyed_record c.key c.puts) (of_key same records key)
    of_key-after records c key true is =
        filter-append (λ (r : K × I). same r.0 key) (without_key same records c.key) (keyed_record c.key c.puts)
        ∙ ap (λ l. l ++ of_key same (keyed_record c.key c.puts) key)
        (filter-filter (λ (r : K × I). same r.0 key) (λ r. not (same r.0 c.key)) records
        ∙ filter-nothing _ (λ (r : K × I).
        ap (λ v. not (same r.0 c.key) && v)
        (laws.symm r.0 key ∙ sym (laws.congr c.key key r.0 is) ∙ laws.symm c.key r.0) ∙ never (same r.0 c.key)) records)
        ∙ put-passes (λ k. same k key) c.key c.puts is
    of_key-after records c key false is =
        filter-append (λ (r : K × I). same r.0 key) (without_key same records c.key) (keyed_record c.key c.puts)
        ∙ ap (λ l. of_key same (without_key same records c.key) key ++ l) (put-fails (λ k. same k key) c.key c.puts is)
        ∙ append-nil (of_key same (without_key same records c.key) key)
        ∙ filter-filter (λ (r : K × I). same r.0 key) (λ r. not (same r.0 c.key)) records
        ∙ filter_agree _ (λ (r : K × I). same r.0 key) (λ (r : K × I). at r.0 (same r.0 c.key) refl) records
      where
        at : (k : K) (v : Bool) → same k c.key ≡ v → (not v && same k key) ≡ same k key
        at k true one = sym (laws.congr k c.key key one ∙ is)
        at k false one = refl

    pub of_key-after_all : (records : List (K × I)) (changes : List (ChangeParts K I)) (key : K)
        → of_key same (after_all same records changes) key ≡ last_word same (of_key same records key) changes key
    of_key-after_all records [] key = refl
    of_key-after_all records (c ∷ changes) key =
        of_key-after_all (after_change same records c) changes key
        ∙ ap (λ before. last_word same before changes key) (of_key-after records c key (same c.key key) refl)

  pub after_all-untouched : (records : List (K × I)) (changes : List (ChangeParts K I))
      → after_all same records changes ≡ untouched same records changes ++ put_last same changes
  after_all-untouched records [] = sym (append-nil _ ∙ all records)
    where
      all : (rs : List (K × I)) → filter (λ (r : K × I). true) rs ≡ rs
      all [] = refl
      all (r ∷ rs) = ap (λ l. r ∷ l) (all rs)
  after_all-untouched records (c ∷ changes) =
      after_all-untouched (after_change same records c) changes ∙ ap (λ l. l ++ put_last same changes)
      (filter-append (λ (r : K × I). not (is_changed same changes r.0)) (without_key same records c.key) (keyed_record c.key c.puts)
      ∙ ap (λ l. l ++ filter (λ (r : K × I). not (is_changed same changes r.0)) (keyed_record c.key c.puts))
      (filter-filter (λ (r : K × I). not (is_changed same changes r.0)) (λ r. not (same r.0 c.key)) records
      ∙ filter_agree _ (λ (r : K × I). not (is_changed same (c ∷ changes) r.0))
      (λ (r : K × I). neither (same r.0 c.key) (is_changed same changes r.0)) records)
      ∙ ap (λ l. untouched same records (c ∷ changes) ++ l) (at (is_changed same changes c.key) refl))
      ∙ append_assoc (untouched same records (c ∷ changes)) (cond (is_changed same changes c.key) [] (keyed_record c.key c.puts))
      (put_last same changes)
    where
      at : (b : Bool) → is_changed same changes c.key ≡ b
          → filter (λ (r : K × I). not (is_changed same changes r.0)) (keyed_record c.key c.puts) ≡ cond b [] (keyed_record c.key c.puts)
      at true is = put-fails (λ k. not (is_changed same changes k)) c.key c.puts (ap not is)
      at false is = put-passes (λ k. not (is_changed same changes k)) c.key c.puts (ap not is)

  pub after_all-append : (records : List (K × I)) (us vs : List (ChangeParts K I))
      → after_all same records (us ++ vs) ≡ after_all same (after_all same records us) vs
  after_all-append records [] vs = refl
  after_all-append records (u ∷ us) vs = after_all-append (after_change same records u) us vs

-- what a line of an update puts
pub put_keys : {K R : Type 0} (key : R → K) (a : Action K R)
    → keyed_record (key_of key a) (put_of a) ≡ with_keys key (option_to_list (put_of a))
put_keys key (New r) = refl
put_keys key (Revised r) = refl
put_keys key (Deleted d) = refl

-- ---- tests of keys

pub bools : (a b : Bool) → (IsTrue a → IsTrue b) → (IsTrue b → IsTrue a) → a ≡ b
bools true true to back = refl
bools false false to back = refl
bools true false to back = sym (to refl)
bools false true to back = back refl

module _ {K : Type 0} where
  -- a test that tells whether keys are the same is an equality
  pub same_equiv : (same : K → K → Bool) → TellsSame same → IsEquivalence same
  same_equiv same tells = record {
    refl = λ x. (tells x x).1 refl;
    symm = λ x y. bools (same x y) (same y x) (λ is. (tells y x).1 (sym ((tells x y).0 is))) (λ is. (tells x y).1 (sym ((tells y x).0 is)));
    congr = λ x y z is. ap (λ v. same v z) ((tells x y).0 is);
  }

  -- what stands for the keys tells it
  pub reported_by_rank : {N : Type 0} (eq : N → N → Bool) (cmp : N → N → Ordering) (rank : K → N) → ((a b : N) → eq a b ≡ eq_by_cmp cmp a b)
      → ((a b : K) → IsTrue (eq (rank a) (rank b)) ↔ (a ≡ b)) → TellsSame (same_by cmp rank)
  reported_by_rank eq cmp rank matches same a b = (
    λ is. (same a b).0 (matches (rank a) (rank b) ∙ is),
    λ is. sym (matches (rank a) (rank b)) ∙ (same a b).1 is,
  )

  -- tests that tell it agree
  pub same_alike : (p q : K → K → Bool) → TellsSame p → TellsSame q → (a b : K) → p a b ≡ q a b
  same_alike p q tp tq a b = bools (p a b) (q a b) (λ is. (tq a b).1 ((tp a b).0 is)) (λ is. (tp a b).1 ((tq a b).0 is))

  module _ {I : Type 0} (p q : K → K → Bool) (agree : (a b : K) → p a b ≡ q a b) where
    after-alike : (records : List (K × I)) (c : ChangeParts K I) → after_change p records c ≡ after_change q records c
    after-alike records c =
        ap (λ l. l ++ keyed_record c.key c.puts)
        (filter_agree (λ (r : K × I). not (p r.0 c.key)) (λ r. not (q r.0 c.key)) (λ r. ap not (agree r.0 c.key)) records)

    pub after_all-alike : (records : List (K × I)) (changes : List (ChangeParts K I)) → after_all p records changes
        ≡ after_all q records changes
    after_all-alike records [] = refl
    after_all-alike records (c ∷ changes) =
        after_all-alike (after_change p records c) changes ∙ ap (λ l. after_all q l changes) (after-alike records c)

    there-alike : (records : List (K × I)) (key : K) → is_there p records key ≡ is_there q records key
    there-alike [] key = refl
    there-alike (r ∷ records) key =
        ap (λ b. b || is_there p records key) (agree r.0 key) ∙ ap (λ b. q r.0 key || b) (there-alike records key)

    pub refusals-alike : (records : List (K × I)) (changes : List (ChangeParts K I)) → refusals p records changes
        ≡ refusals q records changes
    refusals-alike records [] = refl
    refusals-alike records (c ∷ changes) =
        ap (λ b. refusal b c ++ refusals p (after_change p records c) changes) (there-alike records c.key)
        ∙ ap (λ l. refusal (is_there q records c.key) c ++ l)
        (refusals-alike (after_change p records c) changes ∙ ap (λ l. refusals q l changes) (after-alike records c))

-- ---- as a list of records

module _ {K R : Type 0} (key : R → K) (same : K → K → Bool) (tells : TellsSame same) (k : K) where
  -- those of the key, without it
  abbrev has : R → Bool
  has = λ r. same (key r) k

  of_key-filter : (rs : List R) → of_key same (with_keys key rs) k ≡ with_keys key (filter has rs)
  of_key-filter rs = filter-map (λ (r : K × R). same r.0 k) (λ (r : R). (key r, r)) rs

  same_records : (xs ys : List R) → with_keys key xs ≡ with_keys key ys → xs ≡ ys
  same_records = same_values (λ (r : R). (key r, r)) (λ x y e. ap (λ (v : K × R). v.1) e)

  -- changes of other keys
  others : (cs : List (RecordChange K R)) (b : List (K × R)) → All (λ d. key_of key d.action ≢ k) cs →
      last_word same b (changes_of key cs) k ≡ b
  others [] b none = refl
  others (c ∷ cs) b none =
      ap (λ v. last_word same (cond v (keyed_record (key_of key c.action) (put_of c.action)) b) (changes_of key cs) k)
      (at (same (key_of key c.action) k) refl)
      ∙ others cs b (All-tail (λ d. key_of key d.action ≢ k) c cs none)
    where
      at : (v : Bool) → same (key_of key c.action) k ≡ v → v ≡ false
      at false is = refl
      at true is = absurd (All-head (λ d. key_of key d.action ≢ k) c cs none ((tells (key_of key c.action) k).0 is))

  behind : (before after : List (RecordChange K R)) (b : List (K × R)) → last_word same b (changes_of key (before ++ after)) k
      ≡ last_word same (last_word same b (changes_of key before) k) (changes_of key after) k
  behind [] after b = refl
  behind (c ∷ before) after b =
      behind before after (cond (same (key_of key c.action) k) (keyed_record (key_of key c.action) (put_of c.action)) b)

  last_is : (before after : List (RecordChange K R)) (c : RecordChange K R) (b : List (K × R)) → key_of key c.action ≡ k
      → All (λ d. key_of key d.action ≢ k) after
      → last_word same b (changes_of key (before ++ c ∷ after)) k ≡ with_keys key (option_to_list (put_of c.action))
  last_is before after c b is none =
      behind before (c ∷ after) b
      ∙ ap (λ v. last_word same (cond v (keyed_record (key_of key c.action) (put_of c.action)) (last_word same b (changes_of key before) k))
      (changes_of key after) k) ((tells (key_of key c.action) k).1 is)
      ∙ others after (keyed_record (key_of key c.action) (put_of c.action)) none ∙ put_keys key c.action

pub have_last_word : {K R : Type 0} (key : R → K) (old : List R) (changes : List (RecordChange K R)) (new : List R)
    → AreAfter key old changes new → (k : K) → HaveLastWord key old changes new k
have_last_word {K} {R} key old changes new are k = record {
  last = λ before after c parts is none. record {
    test = has key are.same are.tells k;
    tells = λ r. are.tells (key r) k;
    are = same_records key are.same are.tells k (option_to_list (put_of c.action)) (filter (has key are.same are.tells k) new)
        (sym (new_is ∙ ap (λ cs. last_word are.same there (changes_of key cs) k) parts
        ∙ last_is key are.same are.tells k before after c there is none));
  };
  kept = λ none items of. record {
    test = has key are.same are.tells k;
    tells = λ r. are.tells (key r) k;
    are = of.are
        ∙ filter_agree of.test (has key are.same are.tells k)
        (λ r. bools (of.test r) (are.same (key r) k) (λ is. (are.tells (key r) k).1 ((of.tells r).0 is))
        (λ is. (of.tells r).1 ((are.tells (key r) k).0 is))) old
        ∙ same_records key are.same are.tells k (filter (has key are.same are.tells k) old) (filter (has key are.same are.tells k) new)
        (sym (new_is ∙ others key are.same are.tells k changes there none ∙ of_key-filter key are.same are.tells k old));
  };
}
  where
    there : List (K × R)
    there = of_key are.same (with_keys key old) k

    new_is : with_keys key (filter (has key are.same are.tells k) new) ≡ last_word are.same there (changes_of key changes) k
    new_is =
        sym (of_key-filter key are.same are.tells k new) ∙ ap (λ l. of_key are.same l k) are.after
        ∙ of_key-after_all are.same (same_equiv are.same are.tells) (with_keys key old) (changes_of key changes) k
