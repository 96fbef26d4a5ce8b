-- What an update leaves fits the columns of lines, where what was there does.
use Rattle.cif_feed.proofs.Names.{All, All-append, All-cons, All-filter, All-head, All-map, All-nil, All-tail, AllFit, AreAfter, AreTriples}
use Rattle.cif_feed.proofs.Names.{Association, AssociationKey, Bool, BytesSpellUpdate, ChangeParts, FitsColumns, IfSome}
use Rattle.cif_feed.proofs.Names.{IsAssociationChange, IsScheduleChange, IsUpdated, List, None, Option, PublishedAssociation}
use Rattle.cif_feed.proofs.Names.{PublishedParts, PublishedSchedule, RecordChange, RecordMark, Schedule, ScheduleFits, ScheduleKey, Some}
use Rattle.cif_feed.proofs.Names.{Transaction, UpdateParts, [], after_all, after_change, all_codes, association_table, change_by}
use Rattle.cif_feed.proofs.Names.{changes_of, contents_of, extract_fits, keyed_record, not, of_profile, published_association_key}
use Rattle.cif_feed.proofs.Names.{published_schedule_key, put_of, subst, sym, with_keys, without_key, ℕ, ◌∷◌}
use Rattle.cif_feed.proofs.{ListSteps.All-from_map, SaidLines.feed_fits}
use Rattle.cif_feed.specs.{Changes.parts_of, declared.feed_line.Feed.TheVariants.Update, declared.mark.Transaction.TheVariants.Deleted}

-- what follows of the third of each three, where P holds of the first
triples-all : {A B D : Type 0} (Q : A → B → D → Type 0) (P : A → Type 0) (S : D → Type 0)
    → ((a : A) (b : B) (d : D) → Q a b d → P a → S d) → (xs : List A) (bs : List B) (ds : List D) → AreTriples Q xs bs ds
    → All P xs → All S ds
triples-all Q P S so [] [] [] t p = All-nil S
triples-all Q P S so (a ∷ xs) (b ∷ bs) (d ∷ ds) t p =
    All-cons S d ds (so a b d t.0 (All-head P a xs p)) (triples-all Q P S so xs bs ds t.1 (All-tail P a xs p))
triples-all Q P S so _ _ _ t p = absurd t

-- ---- what changes leave

module _ {K R : Type 0} (P : R → Type 0) where
  -- the record of an entry
  abbrev IsEntry : K × R → Type 0
  IsEntry e = P e.1

  -- what a change puts
  abbrev Puts : ChangeParts K R → Type 0
  Puts c = IfSome c.puts P

  put-is : (key : K) (o : Option R) → IfSome o P → All IsEntry (keyed_record key o)
  put-is key None p = All-nil IsEntry
  put-is key (Some r) p = All-cons IsEntry (key, r) [] p (All-nil IsEntry)

  after-each : (same : K → K → Bool) (records : List (K × R)) (changes : List (ChangeParts K R)) → All IsEntry records
      → All Puts changes → All IsEntry (after_all same records changes)
  after-each same records [] old puts = old
  after-each same records (c ∷ changes) old puts =
      after-each same (after_change same records c) changes
      (All-append IsEntry (without_key same records c.key) (keyed_record c.key c.puts)
      (All-filter (λ (r : K × R). not (same r.0 c.key)) IsEntry records old) (put-is c.key c.puts (All-head Puts c changes puts)))
      (All-tail Puts c changes puts)

  -- a change puts a record of which P holds
  abbrev PutsSuch : RecordChange K R → Type 0
  PutsSuch c = IfSome (put_of c.action) P

  change_puts : (transaction : Transaction) (number : ℕ) (k : K) (r : R) → P r → PutsSuch (change_by transaction number k r)
  change_puts Deleted number k r p = tt
  change_puts _ number k r p = p

  left : (key : R → K) (old : List R) (cs : List (RecordChange K R)) (new : List R) → AreAfter key old cs new → All P old → All PutsSuch cs
      → All P new
  left key old cs new after p puts =
      All-from_map (λ (r : R). (key r, r)) IsEntry new (subst (All IsEntry) (sym after.after)
      (after-each after.same (with_keys key old) (changes_of key cs) (All-map IsEntry (λ (r : R). (key r, r)) old p)
      (All-map Puts (parts_of key) cs puts)))

-- ---- what an update puts

abbrev pub AssociationFits : Association → Type 0
AssociationFits a = AllFit (association_table a)

abbrev AssociationOf : PublishedAssociation → Type 0
AssociationOf a = AssociationFits a.association

abbrev ScheduleOf : PublishedSchedule → Type 0
ScheduleOf s = ScheduleFits s.schedule

association_put : (x : Association) (m : RecordMark) (c : RecordChange AssociationKey PublishedAssociation)
    → IsAssociationChange x m c → AssociationFits x → PutsSuch AssociationOf c
association_put x m c is fits =
    subst (PutsSuch AssociationOf) (sym is.change)
    (change_puts AssociationOf m.transaction m.line (x.key, x.first, m.letter) is.published
    (subst AssociationFits (sym is.is.of_profile) fits))

schedule_put : (x : Schedule) (m : RecordMark) (c : RecordChange ScheduleKey PublishedSchedule) → IsScheduleChange x m c
    → ScheduleFits x → PutsSuch ScheduleOf c
schedule_put x m c is fits =
    subst (PutsSuch ScheduleOf) (sym is.change)
    (change_puts ScheduleOf m.transaction m.line (x.uid, x.first, m.letter) is.published
    (subst ScheduleFits (sym is.is.of_profile) fits))

pub updated_fits : (max : ℕ) (bytes : List ℕ) (u : UpdateParts) (old new : PublishedParts) → BytesSpellUpdate max bytes u
    → IsUpdated u old new → FitsColumns (of_profile old) → FitsColumns (of_profile new)
updated_fits max bytes u old new s up fits =
    let lines = s.spell.lines in
    let x = lines.extract in
    let says = s.spell.says in
    let put = feed_fits Update all_codes (contents_of bytes) lines s.spell.spelled in
    let association : PublishedAssociation → Association = λ a. a.association in
    let schedule : PublishedSchedule → Schedule = λ s. s.schedule in
    extract_fits (of_profile new)
    (All-map AssociationFits association new.associations
    (left AssociationOf published_association_key old.associations u.associations new.associations up.associations
    (All-from_map association AssociationFits old.associations fits.associations)
    (triples-all IsAssociationChange AssociationFits (PutsSuch AssociationOf) association_put x.associations lines.marks.associations
    u.associations says.associations put.associations)))
    (All-map ScheduleFits schedule new.schedules
    (left ScheduleOf published_schedule_key old.schedules u.schedules new.schedules up.schedules
    (All-from_map schedule ScheduleFits old.schedules fits.schedules)
    (triples-all IsScheduleChange ScheduleFits (PutsSuch ScheduleOf) schedule_put x.schedules lines.marks.schedules u.schedules
    says.schedules put.schedules)))
