-- The changes of an update, one after another.
use Rattle.cif_feed.proofs.Names.{AreLast, Bool, ChangeParts, IsEquivalence, List, None, Option, RecordChange, SaysAlone, SaysThere, Some}
use Rattle.cif_feed.proofs.Names.{[], after_all, after_change, ap, append-nil, append_assoc, arith, changes_of, cond, drop, eq-eqb, false}
use Rattle.cif_feed.proofs.Names.{filter, filter_agree, get_or, get_or-map, is_changed, is_position, is_some, is_there, items_where_true}
use Rattle.cif_feed.proofs.Names.{keyed_record, last_from, length, length-map, length-take, list_any, list_any-append, list_any_at, map}
use Rattle.cif_feed.proofs.Names.{map-append, map_more, nat_tests, not, option_or, option_to_list, or-false, or-true, or_none, put_last}
use Rattle.cif_feed.proofs.Names.{refl, refusal, refusals, same_Some, sym, take, take-append-drop, true, untouched, unwrap_or, with_keys, ℕ}
use Rattle.cif_feed.proofs.Names.{◌&&◌, ◌++◌, ◌+◌, ◌<◌, ◌==◌, ◌||◌, ◌∙◌, ◌∷◌, ◌≡◌, ◌≤◌}
use Rattle.std.specs.List.Retain.{IsFiltered, ReturnsInTurn}
use Rattle.cif_feed.proofs.{ChangeLaws.of_key-after, ChangeLaws.put_keys, ListSteps.filter-map}
use Rattle.cif_feed.specs.Changes.{of_key, parts_of}

-- ---- options and tests

or-assoc : {A : Type 0} (o p q : Option A) → option_or o (option_or p q) ≡ option_or (option_or o p) q
or-assoc None p q = refl
or-assoc (Some x) p q = refl

or-some : {A : Type 0} (o p : Option A) → is_some (option_or o p) ≡ (is_some p || is_some o)
or-some None None = refl
or-some None (Some y) = refl
or-some (Some x) None = refl
or-some (Some x) (Some y) = refl

some-cond : (b : Bool) (n : ℕ) → is_some (cond b (Some n) None) ≡ b
some-cond true n = refl
some-cond false n = refl

-- whether a list has an element
has_one : {A : Type 0} → List A → Bool
has_one [] = false
has_one (x ∷ xs) = true

any-filter : {A : Type 0} (p : A → Bool) (xs : List A) → list_any p xs ≡ has_one (filter p xs)
unfolding has_one
any-filter p [] = refl
any-filter p (x ∷ xs) = at (p x) (any-filter p xs)
  where
    at : (b : Bool) → list_any p xs ≡ has_one (filter p xs) → (b || list_any p xs) ≡ has_one (cond b (x ∷ filter p xs) (filter p xs))
    at true more = refl
    at false more = more

put-one : {K I : Type 0} (key : K) (o : Option I) → has_one (keyed_record key o) ≡ is_some o
unfolding has_one
put-one key None = refl
put-one key (Some item) = refl

-- a test for two keys that are the same
any_same : {K A : Type 0} (same : K → K → Bool) → IsEquivalence same → (key : A → K) (a b : K) → same a b ≡ true → (xs : List A)
    → list_any (λ x. same a (key x)) xs ≡ list_any (λ x. same b (key x)) xs
any_same same laws key a b is [] = refl
any_same same laws key a b is (x ∷ xs) =
    ap (λ v. v || list_any (λ y. same a (key y)) xs) (laws.congr a b (key x) is)
    ∙ ap (λ v. same b (key x) || v) (any_same same laws key a b is xs)

module _ {K I : Type 0} (same : K → K → Bool) (laws : IsEquivalence same) where
  -- ---- the last change of a key

  last-append : (n : ℕ) (xs ys : List (ChangeParts K I)) (key : K)
      → last_from same n (xs ++ ys) key ≡ option_or (last_from same (n + length xs) ys key) (last_from same n xs key)
  last-append n [] ys key = ap (λ m. last_from same m ys key) (omega arith) ∙ sym (or_none _)
  last-append n (x ∷ xs) ys key =
      ap (λ o. option_or o (cond (same x.key key) (Some n) None)) (last-append (n + 1) xs ys key)
      ∙ sym (or-assoc (last_from same (n + 1 + length xs) ys key) (last_from same (n + 1) xs key) (cond (same x.key key) (Some n) None))
      ∙ ap (λ m. option_or (last_from same m ys key) (option_or (last_from same (n + 1) xs key) (cond (same x.key key) (Some n) None)))
      (omega arith)

  -- one change more is the last of its key
  pub last-more : (xs : List (ChangeParts K I)) (c : ChangeParts K I) (n : ℕ) (old new : K → Option ℕ) → AreLast same xs old → n ≡ length xs
      → ((key : K) → new key ≡ cond (same c.key key) (Some n) (old key)) → AreLast same (xs ++ c ∷ []) new
  last-more xs c n old new are long is = record { are = λ key. is key ∙ at key (same c.key key) ∙ sym (last-append 0 xs (c ∷ []) key) }
    where
      at : (key : K) (b : Bool) → cond b (Some n) (old key)
          ≡ option_or (option_or None (cond b (Some (0 + length xs)) None)) (last_from same 0 xs key)
      at key true = ap Some (omega (arith, long))
      at key false = are.are key

  -- a key has a last change exactly if it is changed
  pub last-some : (n : ℕ) (xs : List (ChangeParts K I)) (key : K) → is_some (last_from same n xs key) ≡ is_changed same xs key
  last-some n [] key = refl
  last-some n (x ∷ xs) key =
      or-some (last_from same (n + 1) xs key) (cond (same x.key key) (Some n) None)
      ∙ ap (λ b. b || is_some (last_from same (n + 1) xs key)) (some-cond (same x.key key) n ∙ laws.symm x.key key)
      ∙ ap (λ b. same key x.key || b) (last-some (n + 1) xs key)

  last-low : (n i : ℕ) (xs : List (ChangeParts K I)) (key : K) → last_from same n xs key ≡ Some i → n ≤ i
  last-low n i [] key is = absurd (cc)
  last-low n i (x ∷ xs) key is =
      at (last_from same (n + 1) xs key) (same x.key key) (λ j e. last-low (n + 1) j xs key e) is
    where
      at : (o : Option ℕ) (b : Bool) → ((j : ℕ) → o ≡ Some j → n + 1 ≤ j) → option_or o (cond b (Some n) None) ≡ Some i → n ≤ i
      at None true later e = let here : n ≡ i = same_Some n i e in omega arith
      at None false later e = absurd (cc)
      at (Some j) b later e = let here : j ≡ i = same_Some j i e in let low : n + 1 ≤ j = later j refl in omega arith

  -- a change is the last of its key exactly if none behind it is of the key
  pub last-position : (xs rest : List (ChangeParts K I)) (c : ChangeParts K I) (n : ℕ) → n ≡ length xs
      → is_position (last_from same 0 (xs ++ c ∷ rest) c.key) n ≡ not (is_changed same rest c.key)
  last-position xs rest c n long =
      ap (λ o. is_position o n)
      (last-append 0 xs (c ∷ rest) c.key
      ∙ ap (λ b. option_or (option_or (last_from same (0 + length xs + 1) rest c.key) (cond b (Some (0 + length xs)) None))
      (last_from same 0 xs c.key)) (laws.refl c.key))
      ∙ at (last_from same (0 + length xs + 1) rest c.key) (last-some (0 + length xs + 1) rest c.key)
      (λ i e. last-low (0 + length xs + 1) i rest c.key e)
    where
      at : (o : Option ℕ) → is_some o ≡ is_changed same rest c.key → ((i : ℕ) → o ≡ Some i → 0 + length xs + 1 ≤ i)
          → is_position (option_or (option_or o (Some (0 + length xs))) (last_from same 0 xs c.key)) n ≡ not (is_changed same rest c.key)
      at None some low = eq-eqb (0 + length xs) n (omega (arith, long)) ∙ ap not some
      at (Some i) some low =
          let late : 0 + length xs + 1 ≤ i = low i refl in
          let apart : (i == n) ≡ false = grind (arith, nat_tests) in
          apart ∙ ap not some

  -- ---- which keys are there

  changed-same : (changes : List (ChangeParts K I)) (a b : K) → same a b ≡ true → is_changed same changes a ≡ is_changed same changes b
  changed-same changes a b is = any_same same laws (λ (c : ChangeParts K I). c.key) a b is changes

  module _ (records : List (K × I)) (changes : List (ChangeParts K I)) (r : K × I) (old : K → Option Bool)
      (so_far : SaysAlone same records changes old) where
    one-more : (key : K) → is_there same (records ++ r ∷ []) key ≡ (is_there same records key || (same r.0 key || false))
    one-more key = list_any-append (λ (x : K × I). same x.0 key) records (r ∷ [])

    -- one record more, of a key that is changed
    pub alone-put : (new : K → Option Bool) → is_changed same changes r.0 ≡ true
        → ((key : K) → new key ≡ cond (same r.0 key) (Some true) (old key)) → SaysAlone same (records ++ r ∷ []) changes new
    alone-put new changed is = record {
      says = λ key. ap (λ o. unwrap_or o false) (is key) ∙ at key (same r.0 key) refl
          ∙ ap (λ b. is_changed same changes key && b) (sym (one-more key));
    }
      where
        at : (key : K) (b : Bool) → same r.0 key ≡ b → unwrap_or (cond b (Some true) (old key)) false
            ≡ (is_changed same changes key && (is_there same records key || (b || false)))
        at key true one =
            ap (λ v. v && true) (sym (sym (changed-same changes r.0 key one) ∙ changed))
            ∙ ap (λ v. is_changed same changes key && v) (sym (or-true (is_there same records key)))
        at key false other = so_far.says key ∙ ap (λ v. is_changed same changes key && v) (sym (or-false (is_there same records key)))

    -- or of another
    pub alone-other : is_changed same changes r.0 ≡ false → SaysAlone same (records ++ r ∷ []) changes old
    alone-other apart = record {
      says = λ key. so_far.says key ∙ at key (same r.0 key) refl ∙ ap (λ b. is_changed same changes key && b) (sym (one-more key));
    }
      where
        at : (key : K) (b : Bool) → same r.0 key ≡ b → (is_changed same changes key && is_there same records key)
            ≡ (is_changed same changes key && (is_there same records key || (b || false)))
        at key true one =
            let no : is_changed same changes key ≡ false = sym (changed-same changes r.0 key one) ∙ apart in
            ap (λ v. v && is_there same records key) no ∙ ap (λ v. v && (is_there same records key || (true || false))) (sym no)
        at key false other = ap (λ v. is_changed same changes key && v) (sym (or-false (is_there same records key)))

  pub says-there : (records : List (K × I)) (changes : List (ChangeParts K I)) (there : K → Option Bool)
      → SaysAlone same records changes there → SaysThere same records changes there
  says-there records changes there alone = record {
    says = λ key changed. alone.says key ∙ ap (λ b. b && is_there same records key) changed;
  }

  -- ---- after a change

  there-after : (records : List (K × I)) (c : ChangeParts K I) (key : K) (b : Bool) → same c.key key ≡ b
      → is_there same (after_change same records c) key ≡ cond b (is_some c.puts) (is_there same records key)
  there-after records c key b is =
      any-filter (λ (r : K × I). same r.0 key) (after_change same records c) ∙ ap has_one (of_key-after same laws records c key b is) ∙ at b
    where
      at : (v : Bool) → has_one (cond v (keyed_record c.key c.puts) (of_key same records key))
          ≡ cond v (is_some c.puts) (is_there same records key)
      at true = put-one c.key c.puts
      at false = sym (any-filter (λ (r : K × I). same r.0 key) records)

  pub says-after : (records : List (K × I)) (changes : List (ChangeParts K I)) (c : ChangeParts K I) (old new : K → Option Bool)
      → SaysThere same records changes old → ((key : K) → new key ≡ cond (same c.key key) (Some (is_some c.puts)) (old key))
      → SaysThere same (after_change same records c) changes new
  says-after records changes c old new so_far is = record {
    says = λ key changed. ap (λ o. unwrap_or o false) (is key) ∙ at key (same c.key key) changed
        ∙ sym (there-after records c key (same c.key key) refl);
  }
    where
      at : (key : K) (b : Bool) → is_changed same changes key ≡ true
          → unwrap_or (cond b (Some (is_some c.puts)) (old key)) false ≡ cond b (is_some c.puts) (is_there same records key)
      at key true changed = refl
      at key false changed = so_far.says key changed

  -- ---- the refused changes

  pub refusals-more : (records : List (K × I)) (changes : List (ChangeParts K I)) (c : ChangeParts K I)
      → refusals same records (changes ++ c ∷ [])
      ≡ refusals same records changes ++ refusal (is_there same (after_all same records changes) c.key) c
  refusals-more records [] c = append-nil (refusal (is_there same records c.key) c)
  refusals-more records (x ∷ changes) c =
      ap (λ l. refusal (is_there same records x.key) x ++ l) (refusals-more (after_change same records x) changes c)
      ∙ sym (append_assoc (refusal (is_there same records x.key) x) (refusals same (after_change same records x) changes)
      (refusal (is_there same (after_all same (after_change same records x) changes) c.key) c))

-- ---- the first ones of a list

-- what is made of one more
pub made-more : {A B : Type 0} (f : A → B) (xs : List A) (i : ℕ) (x : A) → i < length xs → x ≡ get_or xs i x
    → map f (take (i + 1) xs) ≡ map f (take i xs) ++ f x ∷ []
made-more f xs i x below is = map_more f xs i x below ∙ ap (λ y. map f (take i xs) ++ f y ∷ []) (sym is)

-- ---- what is kept by flags, one for each element

module _ {X P : Type 0} (R : P → X → Bool → P → Type 0) (flags : P → List Bool)
    (step : (p : P) (x : X) (b : Bool) (q : P) → R p x b q → (flag : Bool) (others : List Bool) → flags p ≡ flag ∷ others
    → (b ≡ not flag) × (flags q ≡ others)) (test : X → Bool) where
  kept-all : (bs : List Bool) (xs : List X) (p q : P) → length bs ≡ length xs → flags p ≡ map test xs → ReturnsInTurn R p bs xs q
      → items_where_true bs xs ≡ filter (λ x. not (test x)) xs
  kept-all [] [] p q long are ran = refl
  kept-all [] (x ∷ xs) p q long are ran = absurd (omega arith)
  kept-all (b ∷ bs) [] p q long are ran = absurd ran
  kept-all (b ∷ bs) (x ∷ xs) p q long are ran =
      let (kept, left) = step p x b ran.0 ran.1 (test x) (map test xs) are in
      at b (not (test x)) kept (kept-all bs xs ran.0 q (omega arith) left ran.2)
    where
      at : (v w : Bool) → v ≡ w → items_where_true bs xs ≡ filter (λ y. not (test y)) xs
          → items_where_true (v ∷ bs) (x ∷ xs) ≡ cond w (x ∷ filter (λ y. not (test y)) xs) (filter (λ y. not (test y)) xs)
      at true true same more = ap (λ l. x ∷ l) more
      at false false same more = more
      at true false same more = absurd (cc)
      at false true same more = absurd (cc)

  pub kept-by_flags : (xs ys : List X) (p : P) → flags p ≡ map test xs → IsFiltered R p xs ys → ys ≡ filter (λ x. not (test x)) xs
  kept-by_flags xs ys p are ran = ran.4 ∙ kept-all ran.0 xs p ran.1 ran.2 are ran.3

-- ---- what the lines of an update are

module _ {K R : Type 0} (key : R → K) where
  module _ (xs : List (RecordChange K R)) (i : ℕ) (x : RecordChange K R) (below : i < length xs) (is : x ≡ get_or xs i x) where
    pub changes-more : changes_of key (take (i + 1) xs) ≡ changes_of key (take i xs) ++ parts_of key x ∷ []
    changes-more = made-more (parts_of key) xs i x below is

    pub changes-long : i ≡ length (changes_of key (take i xs))
    changes-long = omega (arith, length-map (take i xs) (parts_of key), length-take i xs)

    -- its key is changed
    pub change-changed : (same : K → K → Bool) → IsEquivalence same → is_changed same (changes_of key xs) (parts_of key x).key ≡ true
    change-changed same laws =
        list_any_at (λ (c : ChangeParts K R). same (parts_of key x).key c.key) (changes_of key xs) i (parts_of key x)
        (omega (arith, length-map xs (parts_of key)))
        (ap (λ (c : ChangeParts K R). same (parts_of key x).key c.key)
        (get_or-map (parts_of key) xs i x (parts_of key x) below ∙ ap (parts_of key) (sym is))
        ∙ laws.refl (parts_of key x).key)

  pub records-more : (xs : List R) (i : ℕ) (x : R) → i < length xs → x ≡ get_or xs i x
      → with_keys key (take (i + 1) xs) ≡ with_keys key (take i xs) ++ (key x, x) ∷ []
  records-more xs i x below is = made-more (λ (r : R). (key r, r)) xs i x below is

  -- the records of the keys that aren't changed
  pub untouched-keys : (same : K → K → Bool) (changes : List (ChangeParts K R)) (test : R → Bool)
      → ((r : R) → test r ≡ not (is_changed same changes (key r))) → (xs : List R)
      → with_keys key (filter test xs) ≡ untouched same (with_keys key xs) changes
  untouched-keys same changes test is xs =
      ap (with_keys key) (filter_agree test _ is xs)
      ∙ sym (filter-map (λ (r : K × R). not (is_changed same changes r.0)) (λ (r : R). (key r, r)) xs)

  -- what a change puts, if it is the last of its key
  pub put-keys : (x : RecordChange K R) (b : Bool)
      → with_keys key (cond (not b) (option_to_list (parts_of key x).puts) [])
      ≡ cond b [] (keyed_record (parts_of key x).key (parts_of key x).puts)
  put-keys x true = refl
  put-keys x false = sym (put_keys key x.action)

  -- one change less is left
  pub put-more : (same : K → K → Bool) (records more : List R) (x : RecordChange K R) (others : List (RecordChange K R)) (is_last : Bool)
      → more ≡ records ++ cond is_last (option_to_list (parts_of key x).puts) []
      → is_last ≡ not (is_changed same (changes_of key others) (parts_of key x).key)
      → with_keys key more ++ put_last same (changes_of key others) ≡ with_keys key records ++ put_last same (changes_of key (x ∷ others))
  put-more same records more x others is_last is last =
      let c = parts_of key x in
      let rest = changes_of key others in
      ap (λ l. with_keys key l ++ put_last same rest) (is ∙ ap (λ b. records ++ cond b (option_to_list c.puts) []) last)
      ∙ ap (λ l. l ++ put_last same rest)
      (map-append (λ (r : R). (key r, r)) records (cond (not (is_changed same rest c.key)) (option_to_list c.puts) [])
      ∙ ap (λ l. with_keys key records ++ l) (put-keys x (is_changed same rest c.key)))
      ∙ append_assoc (with_keys key records) (cond (is_changed same rest c.key) [] (keyed_record c.key c.puts)) (put_last same rest)

  -- the change that comes after so many is the last of its key or not
  pub last-of_all : (same : K → K → Bool) → IsEquivalence same
      → (all : List (RecordChange K R)) (x : RecordChange K R) (others : List (RecordChange K R)) (n : ℕ)
      (last : K → Option ℕ) → AreLast same (changes_of key all) last → x ∷ others ≡ drop n all → n ≤ length all
      → is_position (last (parts_of key x).key) n ≡ not (is_changed same (changes_of key others) (parts_of key x).key)
  last-of_all same laws all x others n last are rest within =
      let parts : changes_of key all ≡ changes_of key (take n all) ++ parts_of key x ∷ changes_of key others =
      (ap (changes_of key) (sym (take-append-drop n all) ∙ ap (λ l. take n all ++ l) (sym rest))
      ∙ map-append (parts_of key) (take n all) (x ∷ others)) in
      ap (λ o. is_position o n) (are.are (parts_of key x).key ∙ ap (λ l. last_from same 0 l (parts_of key x).key) parts)
      ∙ last-position same laws (changes_of key (take n all)) (changes_of key others) (parts_of key x) n
      (omega (arith, length-map (take n all) (parts_of key), length-take n all))
