-- Runs after which each image reads as one that there was.
use Rattle.std.proofs.Common.{◌≡◌, ℕ, ◌+◌, ◌≤◌, ◌⊎◌, List, IsTrue, refl, sym, ◌∙◌, subst, inl, inr, arith}
use Rattle.std.proofs.Math.Logic.{⊎_elim}
use Rattle.q4_value.specs.declared.column.Column.{Column}
use Rattle.q4_table.specs.TableState.{TableState, new_table}
use Rattle.q4_record.specs.Side.{IsOpen, IsNarrow, Side as IsSide}
use Rattle.q4_record.proofs.OneSide.{side_once}
use Rattle.q4_disk.specs.declared.disk.Side.{Side}
use Rattle.q4_disk.specs.declared.disk.Side.TheVariants.{A, B}
use Rattle.q4_disk.specs.Told.{Sides, Told}
use Rattle.q4_disk.specs.Images.{on, Within}
use Rattle.q4_disk.specs.Time.{LeavesOnly}
use Rattle.q4_disk.proofs.Moments.{weaker, then_only, left_now}
use Rattle.q4_store.specs.Reading.{IsCurrent, Reads, IsOutgrown, ReadsOwn, Opens, Alike, ReadsAs, MayLeave, ReadsAsOpened, ReadsAsGiven}

module _ (columns : List Column) where
  pub alike_same : (c : Sides) → Alike columns c c
  alike_same c = record { forth = λ table generation reads. reads; back = λ table generation reads. reads; outgrown = (λ is. is, λ is. is) }

  alike_then : (a b c : Sides) → Alike columns a b → Alike columns b c → Alike columns a c
  alike_then a b c first second = record {
    forth = λ table generation reads. second.forth table generation (first.forth table generation reads);
    back = λ table generation reads. first.back table generation (second.back table generation reads);
    outgrown = (λ is. second.outgrown.0 (first.outgrown.0 is), λ is. first.outgrown.1 (second.outgrown.1 is));
  }

  -- what reads as the table without a rewrite does so in an image alike
  pub own_alike : (d c : Sides) (table : TableState) (generation : ℕ) → Alike columns d c → ReadsOwn columns d table generation → ReadsOwn columns c table generation
  own_alike d c table generation alike own = record { reads = alike.forth table generation own.reads; own = λ outgrown. own.own (alike.outgrown.1 outgrown) }

  pub reads_as_then : (images between : Sides → Type 0) → Within between (ReadsAs columns images) → (c : Sides) → ReadsAs columns between c → ReadsAs columns images c
  reads_as_then images between each c second = let first = each second.0 second.1 in (first.0, first.1, alike_then first.0 second.0 c first.2 second.2)

  -- an image that there was reads as itself
  pub as_itself : (images : Sides → Type 0) (c : Sides) → images c → ReadsAs columns images c
  as_itself images c im = (c, im, alike_same c)

  pub as_opened : (images : Sides → Type 0) (c : Sides) → ReadsAs columns images c → ReadsAsOpened columns images c
  as_opened images c like = (like.0, like.1, inl like.2)

  -- one run after another
  pub reads_then : (a b c : Told) → LeavesOnly a b (ReadsAs columns a.images) → Within b.images (ReadsAs columns a.images) → LeavesOnly b c (ReadsAs columns b.images) → LeavesOnly a c (ReadsAs columns a.images)
  reads_then a b c first now second = weaker a c (λ x. ReadsAs columns a.images x ⊎ ReadsAs columns b.images x) (ReadsAs columns a.images) (then_only a b c (ReadsAs columns a.images) (ReadsAs columns b.images) first second)
      (λ x either. ⊎_elim (λ was. was) (λ later. reads_as_then a.images b.images now x later) either)

  -- the last of which may make the table
  pub reads_or_then : (a b c : Told) (table : TableState) (generation : ℕ) → LeavesOnly a b (ReadsAs columns a.images) → Within b.images (ReadsAs columns a.images) → LeavesOnly b c (λ x. ReadsAs columns b.images x ⊎ ReadsOwn columns x table generation)
      → LeavesOnly a c (λ x. ReadsAs columns a.images x ⊎ ReadsOwn columns x table generation)
  reads_or_then a b c table generation first now second = weaker a c (λ x. ReadsAs columns a.images x ⊎ (ReadsAs columns b.images x ⊎ ReadsOwn columns x table generation)) (λ x. ReadsAs columns a.images x ⊎ ReadsOwn columns x table generation)
      (then_only a b c (ReadsAs columns a.images) (λ x. ReadsAs columns b.images x ⊎ ReadsOwn columns x table generation) first second)
      (λ x either. ⊎_elim (λ was. inl was) (λ later. ⊎_elim (λ read. inl (reads_as_then a.images b.images now x read)) (λ made. inr made) later) either)

  -- behind a run that adds no image, what was there reads as before
  pub opened_then : (a b c : Told) → LeavesOnly a b a.images → Within b.images a.images → LeavesOnly b c (ReadsAsOpened columns b.images) → LeavesOnly a c (ReadsAsOpened columns a.images)
  opened_then a b c first now second = weaker a c (λ x. a.images x ⊎ ReadsAsOpened columns b.images x) (ReadsAsOpened columns a.images) (then_only a b c a.images (ReadsAsOpened columns b.images) first second)
      (λ x either. ⊎_elim (λ was. as_opened a.images x (as_itself a.images x was)) (λ later. (later.0, now later.0 later.1, later.2)) either)

  pub given_then : (a b c : Told) (table : TableState) (generation : ℕ) → LeavesOnly a b a.images → Within b.images a.images → LeavesOnly b c (ReadsAsGiven columns table generation b.images) → LeavesOnly a c (ReadsAsGiven columns table generation a.images)
  given_then a b c table generation first now second = weaker a c (λ x. a.images x ⊎ ReadsAsGiven columns table generation b.images x) (ReadsAsGiven columns table generation a.images) (then_only a b c a.images (ReadsAsGiven columns table generation b.images) first second)
      (λ x either. ⊎_elim (λ was. inl (as_itself a.images x was)) (λ later. ⊎_elim (λ like. inl (like.0, now like.0 like.1, like.2)) (λ made. inr made) later) either)

  -- of two current sides each has the greater generation
  current_once : (s t : Side) (c : Sides) (one two : TableState) (g h m n : ℕ) → IsCurrent s c → IsCurrent t c → IsSide columns (on s c) one g m → IsSide columns (on t c) two h n → (one ≡ two) × (g ≡ h)
  current_once A A c one two g h m n is also first second = let same = side_once columns c.a one two g h m n first second in (same.0, same.1)
  current_once B B c one two g h m n is also first second = let same = side_once columns c.b one two g h m n first second in (same.0, same.1)
  current_once A B c one two g h m n is also first second = let up = is.behind also.is_open in let down = also.behind is.is_open in absurd (omega (arith, up.1, down.1))
  current_once B A c one two g h m n is also first second = let up = is.behind also.is_open in let down = also.behind is.is_open in absurd (omega (arith, up.1, down.1))

  not_new : (s : Side) (c : Sides) → IsOpen (on s c) → (IsOpen c.a → ⊥) → (IsOpen c.b → ⊥) → ⊥
  not_new A c is_open closed_a closed_b = closed_a is_open
  not_new B c is_open closed_a closed_b = closed_b is_open

  -- two sides read as one table at most
  pub reads_once : (c : Sides) (one two : TableState) (g h : ℕ) → Reads columns c one g → Reads columns c two h → (one ≡ two) × (g ≡ h)
  reads_once c one two g h (inl x) (inl y) = current_once x.side y.side c one two g h x.len y.len x.current y.current x.stands y.stands
  reads_once c one two g h (inl x) (inr y) = absurd (not_new x.side c x.current.is_open y.closed_a y.closed_b)
  reads_once c one two g h (inr x) (inl y) = absurd (not_new y.side c y.current.is_open x.closed_a x.closed_b)
  reads_once c one two g h (inr x) (inr y) = (x.table_is ∙ sym y.table_is, x.generation_is ∙ sym y.generation_is)

  -- what reads so without a rewrite is what opening gives
  pub own_opened : (c : Sides) (one two : TableState) (g h : ℕ) → ReadsOwn columns c one g → Opens columns c two h → (two ≡ one) × (h ≡ g)
  own_opened c one two g h own (inl also) = reads_once c two one h g also.reads own.reads
  own_opened c one two g h own (inr outgrown) = absurd (own.own outgrown.0)

  -- opening gives one table at most
  pub opens_once : (c : Sides) (one two : TableState) (g h : ℕ) → Opens columns c one g → Opens columns c two h → (one ≡ two) × (g ≡ h)
  opens_once c one two g h (inl own) also = let same = own_opened c one two g h own also in (sym same.0, sym same.1)
  opens_once c one two g h (inr outgrown) (inl own) = own_opened c two one h g own (inr outgrown)
  opens_once c one two g h (inr one_told) (inr two_told) =
      let same = reads_once c one two one_told.1.0 two_told.1.0 one_told.1.1 two_told.1.1 in
      let first = one_told.1.2 in
      let second = two_told.1.2 in
      (same.0, omega (arith, same.1, first, second))

  -- what a crash inside an opening leaves is opened as what was there would have been
  pub opened_again : (one two : Sides) (table : TableState) (g : ℕ) → MayLeave columns one two → Opens columns two table g → Opens columns one table g
  opened_again one two table g (inl like) (inl own) = inl (record { reads = like.back table g own.reads; own = λ is. own.own (like.outgrown.0 is) })
  opened_again one two table g (inl like) (inr outgrown) = inr (like.outgrown.1 outgrown.0, (outgrown.1.0, like.back table outgrown.1.0 outgrown.1.1, outgrown.1.2))
  opened_again one two table g (inr made) opens =
      let same = own_opened two made.table table (made.generation + 1) g made.now opens in
      inr (made.outgrown, (made.generation, subst (λ (t : TableState). Reads columns one t made.generation) (sym same.0) made.was, same.1))

  pub outgrown_not : (c : Sides) → (IsOpen c.a → ⊥) → (IsOpen c.b → ⊥) → IsOutgrown columns c → ⊥
  outgrown_not c closed_a closed_b outgrown = not_new outgrown.side c outgrown.current.is_open closed_a closed_b

  -- the new table reads as sides of which neither was open
  pub made_reads : (images : Sides → Type 0) (bytes c : Sides) → images bytes → (IsOpen bytes.a → ⊥) → (IsOpen bytes.b → ⊥) → ReadsOwn columns c (new_table columns) 1 → ReadsAs columns images c
  made_reads images bytes c im closed_a closed_b made = (
    bytes,
    im,
    record {
      forth = λ table generation reads.
          let same = reads_once bytes (new_table columns) table 1 generation (inr (record { closed_a = closed_a; closed_b = closed_b; table_is = refl; generation_is = refl })) reads in
          subst (λ (t : TableState). Reads columns c t generation) same.0 (subst (λ (n : ℕ). Reads columns c (new_table columns) n) same.1 made.reads);
      back = λ table generation reads.
          let same = reads_once c table (new_table columns) generation 1 reads made.reads in
          inr (record { closed_a = closed_a; closed_b = closed_b; table_is = same.0; generation_is = same.1 });
      outgrown = (λ is. absurd (outgrown_not bytes closed_a closed_b is), λ is. absurd (made.own is));
    },
  )

-- what a crash now leaves, by what it might have left since
pub now_reads : (a b : Told) (P : Sides → Type 0) → (IsTrue b.honest → (t : ℕ) (c : Sides) → t ≤ b.moment → b.images c → b.since t c) → IsTrue b.honest → LeavesOnly a b P → Within b.images P
now_reads a b P counts honest run = left_now a b P (counts honest) run
