-- One more node is opened over two more devices.
use Rattle.std.proofs.Common.{◌≡◌, ◌+◌, ◌*◌, ◌≤◌, ◌++◌, ◌∙◌, ℕ, suc, List, [], ◌∷◌, length, refl, sym, ap, subst, append_assoc, append-nil, arith}
use Rattle.std.proofs.lemmas.List.{nil_from_length}
use Rattle.device.specs.Device.{State}
use Rattle.calls.specs.Views.{NodeView}
use Rattle.cluster.specs.Nodes.{Reopened}
use Rattle.names.specs.declared.node_name.NodeName.{NodeName}
use Rattle.names.specs.declared.node_name.NodeName.TheVariants.{Coordinator, Shard}
use Rattle.cluster.specs.Openings.{AreOpened, OpensNext, name_at}

module _ {D : Type 0} (state : D → State) (honest : D → Type 0) (moment : D → ℕ) (left_since : D → ℕ → List ℕ → Type 0) (store shards : ℕ) where
  pub one_more : (place at : ℕ) (devices : List D) (nodes : List (NodeView D)) (a b : D) (is : NodeView D)
      → AreOpened state honest moment left_since store shards place devices nodes → at ≡ place + length nodes → Reopened state honest moment left_since store shards (name_at at) a b is
      → AreOpened state honest moment left_since store shards place (devices ++ a ∷ b ∷ []) (nodes ++ is ∷ [])
  one_more place at [] [] a b is all e opens =
      let here : at ≡ place = omega (arith, e) in
      (subst (λ (n : ℕ). Reopened state honest moment left_since store shards (name_at n) a b is) here opens, tt)
  one_more place at (x ∷ y ∷ devices) (node ∷ nodes) a b is all e opens =
      let later : at ≡ suc place + length nodes = omega (arith, e) in
      (all.0, one_more (suc place) at devices nodes a b is all.1 later opens)
  one_more place at devices nodes a b is all e opens = absurd all

  -- the nodes that were opened so far, over the first of these devices, and the devices that are left
  pub record SoFar (all left : List D) (nodes : List (NodeView D)) : Type 0 where
    pub taken : List D
    pub split : all ≡ taken ++ left
    pub opened : AreOpened state honest moment left_since store shards 0 taken nodes

  pub none_yet : (all : List D) → SoFar all all []
  none_yet all = record { taken = []; split = refl; opened = tt }

  pub next : (all left : List D) (nodes : List (NodeView D)) (name : NodeName) (later : List D) (later_nodes : List (NodeView D))
      → SoFar all left nodes → name ≡ name_at (length nodes) → OpensNext state honest moment left_since store shards name left nodes later later_nodes → SoFar all later later_nodes
  next all left nodes name later later_nodes so is o =
      let opens = subst (λ (n : NodeName). Reopened state honest moment left_since store shards n o.a o.b o.is) is o.opens in
      let opened = one_more 0 (length nodes) so.taken nodes o.a o.b o.is so.opened (omega arith) opens in
      record {
        taken = so.taken ++ o.a ∷ o.b ∷ [];
        split = so.split ∙ ap (λ (ds : List D). so.taken ++ ds) o.devices_are ∙ sym (append_assoc so.taken (o.a ∷ o.b ∷ []) later);
        opened = subst (AreOpened state honest moment left_since store shards 0 (so.taken ++ o.a ∷ o.b ∷ [])) (sym o.nodes_are) opened;
      }

  pub all_opened : (all left : List D) (nodes : List (NodeView D)) → SoFar all left nodes → left ≡ [] → AreOpened state honest moment left_since store shards 0 all nodes
  all_opened all left nodes so is =
      let whole : all ≡ so.taken = so.split ∙ ap (λ (ds : List D). so.taken ++ ds) is ∙ append-nil so.taken in
      subst (λ (ds : List D). AreOpened state honest moment left_since store shards 0 ds nodes) (sym whole) so.opened

  -- the first is the coordinator
  pub first : (all : List D) (nodes : List (NodeView D)) (later : List D) (later_nodes : List (NodeView D))
      → nodes ≡ [] → OpensNext state honest moment left_since store shards Coordinator all nodes later later_nodes → SoFar all later later_nodes
  first all nodes later later_nodes none o =
      next all all nodes Coordinator later later_nodes (subst (SoFar all all) (sym none) (none_yet all)) (ap (λ (ns : List (NodeView D)). name_at (length ns)) (sym none)) o

  -- and after it stand the shards
  pub more : (all left : List D) (nodes : List (NodeView D)) (s : ℕ) (later : List D) (later_nodes : List (NodeView D))
      → SoFar all left nodes → length nodes ≡ s + 1 → OpensNext state honest moment left_since store shards (Shard s) left nodes later later_nodes → SoFar all later later_nodes
  more all left nodes s later later_nodes so count o =
      let e : suc s ≡ length nodes = omega (arith, count) in
      next all left nodes (Shard s) later later_nodes so (ap name_at e) o

  -- this many fewer devices leave none
  pub opened : (all left : List D) (nodes : List (NodeView D)) (count s : ℕ) → SoFar all left nodes → length left ≡ count → count + 2 * s ≡ 2 * shards → shards ≤ s → AreOpened state honest moment left_since store shards 0 all nodes
  opened all left nodes count s so len taken over = all_opened all left nodes so (nil_from_length left (omega (arith, len, taken, over)))

-- two devices are taken at a time
pub first_two : (left all n : ℕ) → left + 2 ≡ all → all ≡ 2 * (n + 1) → left + 0 ≡ 2 * n
first_two left all n two count = omega arith

pub next_two : (left before s n : ℕ) → left + 2 ≡ before → before + 2 * s ≡ 2 * n → left + 2 * (s + 1) ≡ 2 * n
next_two left before s n two count = omega arith

pub one_up : (count before s : ℕ) → count ≡ before + 1 → before ≡ s + 1 → count ≡ s + 1 + 1
one_up count before s more was = omega arith

pub count_all : (n len s shards : ℕ) → len ≡ n → len ≡ s + 1 → shards ≤ s → s ≤ shards → n ≡ shards + 1
count_all n len s shards is count over under = omega arith
