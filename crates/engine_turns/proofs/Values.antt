-- A value settles after its number was given and what it asked was entered.
use Rattle.std.proofs.Common.{◌≡◌, ◌≤◌, ◌<◌, ℕ, List, true, Option, Some, None, Ok, nat_le, length, get_or, refl, sym, ap, ◌∙◌, subst}
use Rattle.asking.specs.declared.limits.TheConstants.{END_OF_NUMBERS}
use Rattle.path_tree.specs.Plain.{Plain}
use Rattle.foreign_values.specs.Chains.{below}
use Rattle.read_sets.specs.declared.trace.Item.{Item}
use Rattle.read_sets.specs.Items.{pairs_of}
use Rattle.runner.specs.declared.ends.Built.{Built}
use Rattle.engine_turns.specs.declared.rows.Row.{Row}
use Rattle.engine_turns.specs.declared.core_data.Core.{Core}
use Rattle.engine_turns.specs.Changes.{dropped_row, settled_row, cause_for}
use Rattle.engine_turns.specs.Entering.{wanted, IsEntered}
use Rattle.engine_turns.specs.Numbers.{number_for, next_counter}
use Rattle.engine_turns.specs.Places.{names}
use Rattle.engine_turns.specs.States.{state_of, is_graded}
use Rattle.engine_turns.specs.Ready.{core_state, top_name, IsReady, StaysReady, IsBuildTop}
use Rattle.engine_turns.specs.Turning.{moved_turn, settled_turn, top_cause, IsValueEnd}
use Rattle.engine_turns.proofs.Readies.{ready_left, change_of, closed, same_flag, after_given, ready_counted, graded_at, number_large, stays_on}
use Rattle.engine_turns.proofs.Settles.{here, value_number, settled_is}
use Rattle.engine_turns.proofs.Entered.{same_column, same_length, ready_entered, top_entered, cause_entered, settled_entered}

module _ {T : Type 0} (c : Core T) (at : ℕ) (ready : IsReady c) (top : IsBuildTop c at) (r1 : Row T)
    (is1 : r1 ≡ get_or c.rows.items at r1) (t : Plain) (b : Built T) (t_is : t ≡ b.tree) (m : ℕ)
    (m_is : m ≡ number_for c.counter t r1.last) (c1 : Core T)
    (given : c1 ≡ record c { counter = next_counter m c.counter }) (mid : Core T)
    (only : mid ≡ record c1 { rows = mid.rows }) (items : List Item)
    (is : IsEntered (wanted (names c1.rows.items) (pairs_of items)) c1.rows.items mid.rows.items)
    (new : Core T) (differs : Option ℕ) (v : IsValueEnd at differs m b t items mid new) where
  -- the tree's number is large
  large : nat_le 3 m ≡ true
  large = ap (nat_le 3) m_is ∙ number_large c.counter t r1.last ready.three
      (ap (λ z. is_graded z.last) is1 ∙ graded_at c.rows.items at r1 top.within ready.graded)

  -- the data with what was entered, before the number was given
  c0 : Core T
  c0 = record c { rows = mid.rows }

  entered_here : IsEntered (wanted (names c.rows.items) (pairs_of items)) c.rows.items
      mid.rows.items
  entered_here = subst (λ z. IsEntered (wanted (names z.rows.items) (pairs_of items)) z.rows.items
      mid.rows.items) given is

  pub value_after : core_state new ≡ settled_turn c (top_cause differs c) (pairs_of items) (Ok b)
  unfolding c0
  value_after =
      let ready0 = (ready_entered c (record c { rows = mid.rows }) refl entered_here.bare
      ready).ready in
      let top0 = top_entered c (record c { rows = mid.rows }) refl entered_here.bare at top in
      let number = m_is ∙ ap (λ u. number_for c.counter u r1.last) t_is in
      let v1 = subst (λ u. IsValueEnd at differs m b u items mid new) t_is v in
      let last : v1.row.last ≡ r1.last =
      sym (here (record c { rows = mid.rows }) at ready0 top0 v1.row v1.is_row (λ z. z.last) None)
      ∙ ap (λ f. f (top_name c.chain)) (same_column c.rows.items mid.rows.items entered_here.bare
      (λ z. z.last) None (λ z. refl))
      ∙ here c at ready top r1 is1 (λ z. z.last) None in
      let by : _ = value_number (record c { rows = mid.rows }) at ready0 top0 v1.row v1.is_row b
      ∙ ap (number_for c.counter b.tree) last ∙ sym number in
      let counter = ap (λ z. z.counter) v1.others ∙ ap (λ z. z.counter) only
      ∙ ap (λ z. z.counter) given in
      let files = ap (λ z. z.files.items) v1.others ∙ ap (λ z. z.files.items) only
      ∙ ap (λ z. z.files.items) given in
      let chain = ap (λ z. z.chain) v1.others ∙ ap (λ z. below z.chain) only
      ∙ ap (λ z. below z.chain) given in
      (λ i. state_of (counter i) (files i) (v1.rows i) (chain i))
      ∙ settled_is (record c { rows = mid.rows }) at ready0 top0 v1.row v1.is_row differs m (Ok b)
      (Ok b.tree) (Some b) items v1.paths v1.moved large refl refl by
      ∙ ap (λ y. moved_turn (record c { rows = mid.rows }) y (pairs_of items) (Ok b))
      (cause_entered c (record c { rows = mid.rows }) refl (pairs_of items) entered_here
      differs)
      ∙ settled_entered c (record c { rows = mid.rows }) refl (pairs_of items) entered_here
      (top_cause differs c) (Ok b)

  pub value_ready : (c.counter ≤ END_OF_NUMBERS → c1.counter ≤ END_OF_NUMBERS) → StaysReady c new
  value_ready low =
      let ready1 = ready_counted c m ready c1 given in
      let there = ready_entered c1 mid only is.bare ready1 in
      let within1 = subst (λ z. at < length z.rows.items) (sym given) top.within in
      let within = subst (λ n. at < n) (sym (same_length c1.rows.items mid.rows.items is.bare))
      within1 in
      after_given c m c1 new given low
      (stays_on c1 mid new there
      (ready_left mid at (settled_row m (Ok t) (Some b) items v.paths
      (dropped_row (cause_for differs v.row) v.row)) v.row there.ready within
      (change_of mid.rows.items at (settled_row m (Ok t) (Some b) items v.paths
      (dropped_row (cause_for differs v.row) v.row)) v.row v.is_row refl large (closed refl)
      (same_flag refl))
      (record mid { rows = new.rows }) new
      (record {
        counter = refl;
        limits = refl;
        dirs = refl;
        files = refl;
        rows =
            v.rows;
        builds = refl;
        checks = refl;
      }) refl v.others))
