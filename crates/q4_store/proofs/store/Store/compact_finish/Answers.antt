use Rattle.std.proofs.Common.{◌≡◌, ◌==◌, ◌+◌, ◌-◌, ◌++◌, ◌≤◌, ◌*◌, List, ℕ, [], ◌∷◌, IsTrue, true, false, Some, None, Result, Ok, Err, IfErr, OnOk, length, refl, sym, ◌∙◌, ap, subst, inl, arith}
use Rattle.q4_table.specs.Owners.{without_owners}
use Rattle.q4_record.specs.Side.{base_at, side_limit}
use Rattle.q4_disk.specs.Told.{Told}
use Rattle.q4_disk.specs.Images.{other, Within}
use Rattle.q4_disk.specs.Time.{LeavesOnly}
use Rattle.q4_disk.proofs.Moments.{began}
use Rattle.q4_store.specs.Looking.{header_bytes}
use Rattle.q4_store.specs.Content.{Content, table_of, IsPrefixOrNew}
use Rattle.q4_store.specs.Copied.{piece_bytes, rest_records}
use Rattle.q4_store.proofs.Owners.{schema_here, rest_unowned}
use Rattle.q4_store.specs.Store.{Stored, StandsFor, StandsUnsure, IsRest, IsUnsure, last_bytes, length_of, finished_length}
use Rattle.q4_store.specs.Device.{DeviceCall, AllMade, fill_calls, switch_calls}
use Rattle.q4_store.specs.CopyCalls.{FinishStops, is_unsure}
use Rattle.q4_store.proofs.Excess.{finished_unowned}
use Rattle.q4_store.specs.declared.copying.Progress.{Progress}
use Rattle.q4_store.proofs.Gathering.{rest_long}
use Rattle.q4_store.proofs.Finishing.{end_is, end_few}
use Rattle.q4_store.proofs.store.Store.compact_finish.Given as given
use Rattle.q4_store.proofs.store.Store.compact_finish.Goals as goal
use Rattle.q4_store.proofs.store.Store.compact_finish.Goals.{After-as_slice-last, After-header_of-header, After-finish}

module _ (g : given.Over) where
  -- the store by its fields
  abbrev view : (c : goal.After-as_slice-last g) → Stored g.row.D.Denot
  view c = record {
    disk = c.self.inside.disk;
    columns = c.self.inside.columns;
    side = c.self.inside.side;
    end = c.self.inside.end;
    generation = c.self.inside.generation;
    records = c.self.inside.batch.records;
    rows = c.self.inside.rows;
    reserved = c.self.inside.reserved;
    known = c.self.inside.known;
    failed = c.self.inside.failed;
    copy = c.self.inside.copy;
    ends = c.self.inside.ends.items;
  }

  here : (c : goal.After-as_slice-last g) (content : Content) → StandsFor g.D.Disk.told c.args.self.now content → StandsFor g.D.Disk.told (view c) content
  here c content s = subst (λ store. StandsFor g.D.Disk.told store content) (sym c.self.view_is) s

  -- what was gathered, by the content
  rest_is : (c : goal.After-as_slice-last g) (content : Content) → table_of content ≡ without_owners c.args.table.now.state
      → c.as_slice-last.result.now ≡ piece_bytes (c.in-Some.progress.at == base_at) (table_of content).columns c.self.inside.ends.items (rest_records c.in-Some.progress.cursor (table_of content)) ++ 0 ∷ []
  rest_is c content same =
      c.as_slice-last.ensures ∙ c.in-Ok.ensures
      ∙ (λ i. piece_bytes (c.in-Some.progress.at == base_at) c.args.table.now.state.columns (c.deref.ensures.value i) (sym (rest_unowned c.in-Some.progress.cursor c.args.table.now.state) i) ++ 0 ∷ [])
      ∙ (λ i. piece_bytes (c.in-Some.progress.at == base_at) (sym same i).columns c.self.inside.ends.items (rest_records c.in-Some.progress.cursor (sym same i)) ++ 0 ∷ [])

  is_rest : (c : goal.After-as_slice-last g) (content : Content) (header : List ℕ) → table_of content ≡ without_owners c.args.table.now.state → header ≡ header_bytes (c.self.inside.generation + 1) (c.in-Some.progress.at + length c.as_slice-last.result.now - 22) → IsRest (view c) c.in-Some.progress content c.as_slice-last.result.now header
  is_rest c content header same is = record { last_is = rest_is c content same; header_is = is }

  whole : (c : goal.After-as_slice-last g) → c.self.inside.failed ≡ false
  whole c = ap (λ (store : Stored g.row.D.Denot). store.failed) c.self.view_is ∙ c.requires.whole

  abbrev header : (c : goal.After-as_slice-last g) → List ℕ
  header c = header_bytes (c.self.inside.generation + 1) (c.in-Some.progress.at + length c.as_slice-last.result.now - 22)

  few : (c : goal.After-as_slice-last g) → c.in-Some.progress.at + length c.as_slice-last.result.now ≤ length_of (view c)
  few c =
      let content = c.requires.content.0 in
      end_few g.D.Disk.told _ content (here c content c.requires.content.1) c.in-Some.progress c.in-Some.is c.self.invariant.kept.room (whole c) c.as_slice-last.result.now (header c) (is_rest c content (header c) c.requires.content.2 refl)

pub gather_rest-requires : goal.gather_rest-requires
gather_rest-requires g c = record { schema = schema_here g.D.Disk.told c.args.self.now c.requires.content.0 c.args.table.now.state c.requires.content.1 c.requires.content.2 }

pub overflow_add-length : goal.overflow_add-length
overflow_add-length g c =
    let a = (goal.at.overflow_add-length g c).After-as_slice-last in
    let short = few g a in
    let most : length_of (view g a) + 32 * c.self.inside.rows ≤ side_limit = c.self.invariant.kept.room in
    omega (arith, short, most)

pub overflow_sub-length : goal.overflow_sub-length
overflow_sub-length g c =
    let a = (goal.at.overflow_sub-length g c).After-as_slice-last in
    let content = c.requires.content.0 in
    let long = end_is g.D.Disk.told _ content (here g a content c.requires.content.1) c.in-Some.progress c.in-Some.is c.self.invariant.kept.room (whole g a) c.as_slice-last.result.now (header g a) (is_rest g a content (header g a) c.requires.content.2 refl) in
    omega (arith, long)

pub overflow_add-self-inside : goal.overflow_add-self-inside
overflow_add-self-inside g c =
    let a = (goal.at.overflow_add-self-inside g c).After-as_slice-last in
    let content = c.requires.content.0 in
    let limit = ((here g a content c.requires.content.1).copy c.in-Some.progress c.in-Some.is).limit in
    omega (arith, limit)

same_some : {one two : Progress} → Some one ≡ Some two → one ≡ two
same_some is = cc is

if_err : {T E : Type 0} {P Q : E → Type 0} (result : Result T E) → ((e : E) → P e → Q e) → IfErr result P → IfErr result Q
if_err (Ok x) f p = tt
if_err (Err e) f p = f e p

both_err : {T E : Type 0} {P Q R : E → Type 0} (result : Result T E) → ((e : E) → P e → Q e → R e) → IfErr result P → IfErr result Q → IfErr result R
both_err (Ok x) f p q = tt
both_err (Err e) f p q = f e p q

-- a store that is failed, with what a crash may leave
unsure_stands : {D : Type 0} (told : D → Told) (old new : Stored D) (content : Content) (len : ℕ) → new ≡ record old { disk = new.disk; failed = true; copy = None; ends = [] } → (told new.disk).honest ≡ (told old.disk).honest
    → (IsTrue (told old.disk).honest → Within (told new.disk).images (IsUnsure content old.generation (other old.side) len)) → StandsUnsure told new content
unsure_stands {D = D} told old new content len is same images = record {
  failed = ap (λ (store : Stored D). store.failed) is;
  dropped = ap (λ (store : Stored D). store.copy) is;
  len = len;
  images = λ honest. subst (λ (store : Stored D). Within (told new.disk).images (IsUnsure content store.generation (other store.side) len)) (sym is) (images (sym same ∙ honest));
}

on_ok : {T E P Q : Type 0} (result : Result T E) → (P → Q) → OnOk result P → OnOk result Q
on_ok (Ok x) f p = f p
on_ok (Err e) f p = tt

module _ (g : given.Over) where
  -- the copy that is under way
  progress_is : (c : goal.After-as_slice-last g) (progress : Progress) → c.args.self.now.copy ≡ Some progress → c.in-Some.progress ≡ progress
  progress_is c progress is = same_some (sym c.in-Some.is ∙ (ap (λ (store : Stored g.row.D.Denot). store.copy) c.self.view_is ∙ is))

  -- what was gathered, by the store as it was given
  last_here : (c : goal.After-as_slice-last g) (progress : Progress) → c.args.self.now.copy ≡ Some progress → c.as_slice-last.result.now ≡ last_bytes c.args.self.now progress c.args.table.now.state
  last_here c progress is =
      c.as_slice-last.ensures ∙ c.in-Ok.ensures
      ∙ ap (λ (ends : List ℕ). piece_bytes (c.in-Some.progress.at == base_at) c.args.table.now.state.columns ends (rest_records c.in-Some.progress.cursor c.args.table.now.state) ++ 0 ∷ []) c.deref.ensures.value
      ∙ (λ i. last_bytes (c.self.view_is i) (progress_is c progress is i) c.args.table.now.state)

  -- how long the side will be
  end_here : (c : goal.After-as_slice-last g) (progress : Progress) → c.args.self.now.copy ≡ Some progress → c.in-Some.progress.at + length c.as_slice-last.result.now ≡ finished_length c.args.self.now progress c.args.table.now.state
  end_here c progress is =
      let long = rest_long (progress.at == base_at) c.args.table.now.state.columns progress.cursor c.args.table.now.state c.args.self.now.ends (last_bytes c.args.self.now progress c.args.table.now.state) refl in
      let at = ap (λ (p : Progress). p.at) (progress_is c progress is) in
      let last = ap length (last_here c progress is) in
      omega (arith, at, last, long)

  header_here : (c : goal.After-finish g) (progress : Progress) → c.args.self.now.copy ≡ Some progress
      → c.header_of-header.result ≡ header_bytes (c.args.self.now.generation + 1) (progress.at + length (last_bytes c.args.self.now progress c.args.table.now.state) - 22)
  header_here c progress is =
      let a = (goal.at.After-finish g c).After-as_slice-last in
      c.header_of-header.ensures ∙ (λ i. header_bytes ((c.self.view_is i).generation + 1) ((progress_is a progress is i).at + length (last_here a progress is i) - 22))

module _ (g : given.Over) where
  rest_given : (c : goal.After-header_of-header g) (content : Content) → table_of content ≡ without_owners c.args.table.now.state → IsRest c.args.self.now c.in-Some.progress content c.as_slice-last.result.now c.header_of-header.result
  rest_given c content same =
      subst (λ store. IsRest store c.in-Some.progress content c.as_slice-last.result.now c.header_of-header.result) c.self.view_is (is_rest g (goal.at.After-header_of-header g c).After-as_slice-last content c.header_of-header.result same c.header_of-header.ensures)

pub finish-requires-clause-content : goal.finish-requires-clause-content
finish-requires-clause-content g c = (c.requires.content.0, c.requires.content.1, rest_given g (goal.at.finish-requires-clause-content g c).After-header_of-header c.requires.content.0 c.requires.content.2)

-- where memory was wanted nothing was called
pub returns-in_default-gather_rest-clause-any_moment : goal.returns-in_default-gather_rest-clause-any_moment
returns-in_default-gather_rest-clause-any_moment g c content s same h =
    let told = g.D.Disk.told in
    let old = c.args.self.now in
    let moments = began (told old.disk) (IsPrefixOrNew content old.generation) (IsPrefixOrNew content old.generation) h (g.met.D.Disk.only_now old.disk h) (λ d im. inl (s.images h d im)) (λ d may. may) in
    subst (λ (disk : g.row.D.Denot). LeavesOnly (told old.disk) (told disk) (IsPrefixOrNew content old.generation)) (sym (ap (λ (store : Stored g.row.D.Denot). store.disk) c.self.view_is)) moments.only

pub returns-clause-any_moment : goal.returns-clause-any_moment
returns-clause-any_moment g c content s same = c.finish.ensures.any_moment content s (rest_given g (goal.at.returns-clause-any_moment g c).After-header_of-header content same)

pub returns-clause-stands : goal.returns-clause-stands
returns-clause-stands g c = on_ok c.finish.result (λ stands content s same. stands content s (rest_given g (goal.at.returns-clause-stands g c).After-header_of-header content same)) c.finish.ensures.stands

pub returns-clause-before_the_gate : goal.returns-clause-before_the_gate
returns-clause-before_the_gate g c = if_err c.finish.result (λ fault before other content s h. before other content s h) c.finish.ensures.before_the_gate

pub returns-clause-goes_on : goal.returns-clause-goes_on
returns-clause-goes_on g c =
    if_err c.finish.result (λ fault before other content s same.
    before other content s (rest_given g (goal.at.returns-clause-goes_on g c).After-header_of-header content same)) c.finish.ensures.goes_on

pub returns-clause-unsure : goal.returns-clause-unsure
returns-clause-unsure g c =
    let told = g.D.Disk.told in
    let a = (goal.at.returns-clause-unsure g c).After-as_slice-last in
    if_err c.finish.result (λ fault before is content s same h progress copying.
    subst (λ n. Within (told c.finish.new.self.disk).images (IsUnsure content c.args.self.now.generation (other c.args.self.now.side) n)) (end_here g a progress copying)
    (before is content s (rest_given g (goal.at.returns-clause-unsure g c).After-header_of-header content same) h)) c.finish.ensures.unsure

pub returns-clause-unsure_stands : goal.returns-clause-unsure_stands
returns-clause-unsure_stands g c =
    both_err c.finish.result (λ fault left before is content s same.
    unsure_stands g.D.Disk.told c.args.self.now c.finish.new.self content (c.in-Some.progress.at + length c.as_slice-last.result.now)
    (left ∙ (λ i. record c.args.self.now { disk = c.finish.new.self.disk; failed = is_unsure (is i); copy = None; ends = [] })) c.finish.ensures.honest
    (before is content s (rest_given g (goal.at.returns-clause-unsure_stands g c).After-header_of-header content same))) c.finish.ensures.dropped c.finish.ensures.unsure

pub returns-clause-finished : goal.returns-clause-finished
returns-clause-finished g c =
    let a = (goal.at.returns-clause-finished g c).After-as_slice-last in
    on_ok c.finish.result (λ finished progress is.
    finished ∙ (λ i. record c.args.self.now { disk = c.finish.new.self.disk; side = other c.args.self.now.side; end = end_here g a progress is i; generation = c.args.self.now.generation + 1; records = []; reserved = 0; known = false; copy = None; ends = [] })) c.finish.ensures.finished

pub returns-clause-exact : goal.returns-clause-exact
returns-clause-exact g c =
    let a = (goal.at.returns-clause-exact g c).After-as_slice-last in
    on_ok c.finish.result (λ finished content extra s same longer.
    let progress = c.in-Some.progress in
    let is = sym (ap (λ (store : Stored g.row.D.Denot). store.copy) c.self.view_is) ∙ c.in-Some.is in
    let end : length_of c.finish.new.self ≡ progress.at + length c.as_slice-last.result.now + 0 = ap length_of finished in
    let told = end_here g a progress is in
    let owners = finished_unowned c.args.self.now progress c.args.table.now.state in
    let here = longer progress is in
    let there = ap (finished_length c.args.self.now progress) same in
    omega (arith, end, told, owners, here, there)) c.finish.ensures.finished

pub returns-clause-device : goal.returns-clause-device
returns-clause-device g c =
    let a = (goal.at.returns-clause-device g c).After-as_slice-last in
    let b = (goal.at.returns-clause-device g c).After-finish in
    on_ok c.finish.result (λ made progress is.
    subst (λ (calls : List DeviceCall). AllMade g.D.Disk.told calls c.args.self.now.disk c.finish.new.self.disk)
    (λ i. fill_calls (other c.args.self.now.side) (progress_is g a progress is i).at (last_here g a progress is i) (header_here g b progress is i) ++ switch_calls (other c.args.self.now.side)) made) c.finish.ensures.device

pub returns-clause-device_err : goal.returns-clause-device_err
returns-clause-device_err g c =
    let a = (goal.at.returns-clause-device_err g c).After-as_slice-last in
    let b = (goal.at.returns-clause-device_err g c).After-finish in
    if_err c.finish.result (λ fault stops progress is.
    subst (λ (calls : List DeviceCall). FinishStops g.D.Disk.told calls (switch_calls (other c.args.self.now.side)) fault c.args.self.now.disk c.finish.new.self.disk)
    (λ i. fill_calls (other c.args.self.now.side) (progress_is g a progress is i).at (last_here g a progress is i) (header_here g b progress is i)) stops) c.finish.ensures.device_err
