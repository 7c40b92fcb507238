-- Stores: lent words in which the nodes of trails lie, and how they grow.
use Rattle.std.specs.Prelude.{◌≡◌, ℕ, ◌≤◌, List, length, take, drop}
use Rattle.trails.specs.declared.store.Store.{Store}
use Rattle.trails.specs.Trails.{Keeps}

-- the words below the top, in which the nodes lie
abbrev pub nodes : Store → List ℕ
nodes s = take s.top s.words.now

-- a store grows, in the same lent words: what was below the top stays, and goes on telling what it told, and what lies above the new top is as it was
pub record Grown (s s' : Store) : Type 0 where
  pub same : s'.words.ghost_name ≡ s.words.ghost_name
  pub long : length s'.words.now ≡ length s.words.now
  pub above : s.top ≤ s'.top
  pub front : take s.top s'.words.now ≡ nodes s
  pub rest : drop s'.top s'.words.now ≡ drop s'.top s.words.now
  pub keeps : Keeps (nodes s) (nodes s')
