use Rattle.std.proofs.Common.{sym, subst}
use Rattle.doc_model.specs.Answers.{Answers}
use Rattle.doc_model.specs.Axes.{axis_of}
use Rattle.doc_model.specs.Asks.{stop_of}
use Rattle.axis_walkers.proofs.axis_walk.walk.Goals as goal

pub itself-requires : goal.itself-requires
itself-requires g c = c.requires

pub returns-in-Itself-clause-moves : goal.returns-in-Itself-clause-moves
returns-in-Itself-clause-moves g c = c.itself.ensures.moves

pub returns-in-Itself-clause-answers : goal.returns-in-Itself-clause-answers
returns-in-Itself-clause-answers g c =
    subst (λ a. Answers stop_of (λ rules steps. axis_of rules steps c.args.n a c.args.test.now) (g.V.NodeView.sees c.args.view.now)
    (g.V.NodeView.sees c.itself.new.view) c.itself.result) (sym c.in-Itself.is) c.itself.ensures.answers

pub children-requires : goal.children-requires
children-requires g c = c.requires

pub returns-in-Child-clause-moves : goal.returns-in-Child-clause-moves
returns-in-Child-clause-moves g c = c.children.ensures.moves

pub returns-in-Child-clause-answers : goal.returns-in-Child-clause-answers
returns-in-Child-clause-answers g c =
    subst (λ a. Answers stop_of (λ rules steps. axis_of rules steps c.args.n a c.args.test.now) (g.V.NodeView.sees c.args.view.now)
    (g.V.NodeView.sees c.children.new.view) c.children.result) (sym c.in-Child.is) c.children.ensures.answers

pub parents-requires : goal.parents-requires
parents-requires g c = c.requires

pub returns-in-Parent-clause-moves : goal.returns-in-Parent-clause-moves
returns-in-Parent-clause-moves g c = c.parents.ensures.moves

pub returns-in-Parent-clause-answers : goal.returns-in-Parent-clause-answers
returns-in-Parent-clause-answers g c =
    subst (λ a. Answers stop_of (λ rules steps. axis_of rules steps c.args.n a c.args.test.now) (g.V.NodeView.sees c.args.view.now)
    (g.V.NodeView.sees c.parents.new.view) c.parents.result) (sym c.in-Parent.is) c.parents.ensures.answers

pub descendants-requires : goal.descendants-requires
descendants-requires g c = c.requires

pub returns-in-Descendant-clause-moves : goal.returns-in-Descendant-clause-moves
returns-in-Descendant-clause-moves g c = c.descendants.ensures.moves

pub returns-in-Descendant-clause-answers : goal.returns-in-Descendant-clause-answers
returns-in-Descendant-clause-answers g c =
    subst (λ a. Answers stop_of (λ rules steps. axis_of rules steps c.args.n a c.args.test.now) (g.V.NodeView.sees c.args.view.now)
    (g.V.NodeView.sees c.descendants.new.view) c.descendants.result) (sym c.in-Descendant.is) c.descendants.ensures.answers

pub descendants_or_self-requires : goal.descendants_or_self-requires
descendants_or_self-requires g c = c.requires

pub returns-in-DescendantOrSelf-clause-moves : goal.returns-in-DescendantOrSelf-clause-moves
returns-in-DescendantOrSelf-clause-moves g c = c.descendants_or_self.ensures.moves

pub returns-in-DescendantOrSelf-clause-answers : goal.returns-in-DescendantOrSelf-clause-answers
returns-in-DescendantOrSelf-clause-answers g c =
    subst (λ a. Answers stop_of (λ rules steps. axis_of rules steps c.args.n a c.args.test.now) (g.V.NodeView.sees c.args.view.now)
    (g.V.NodeView.sees c.descendants_or_self.new.view) c.descendants_or_self.result) (sym c.in-DescendantOrSelf.is) c.descendants_or_self.ensures.answers

pub ancestors-requires : goal.ancestors-requires
ancestors-requires g c = c.requires

pub returns-in-Ancestor-clause-moves : goal.returns-in-Ancestor-clause-moves
returns-in-Ancestor-clause-moves g c = c.ancestors.ensures.moves

pub returns-in-Ancestor-clause-answers : goal.returns-in-Ancestor-clause-answers
returns-in-Ancestor-clause-answers g c =
    subst (λ a. Answers stop_of (λ rules steps. axis_of rules steps c.args.n a c.args.test.now) (g.V.NodeView.sees c.args.view.now)
    (g.V.NodeView.sees c.ancestors.new.view) c.ancestors.result) (sym c.in-Ancestor.is) c.ancestors.ensures.answers

pub ancestors_or_self-requires : goal.ancestors_or_self-requires
ancestors_or_self-requires g c = c.requires

pub returns-in-AncestorOrSelf-clause-moves : goal.returns-in-AncestorOrSelf-clause-moves
returns-in-AncestorOrSelf-clause-moves g c = c.ancestors_or_self.ensures.moves

pub returns-in-AncestorOrSelf-clause-answers : goal.returns-in-AncestorOrSelf-clause-answers
returns-in-AncestorOrSelf-clause-answers g c =
    subst (λ a. Answers stop_of (λ rules steps. axis_of rules steps c.args.n a c.args.test.now) (g.V.NodeView.sees c.args.view.now)
    (g.V.NodeView.sees c.ancestors_or_self.new.view) c.ancestors_or_self.result) (sym c.in-AncestorOrSelf.is) c.ancestors_or_self.ensures.answers

pub following-requires : goal.following-requires
following-requires g c = c.requires

pub returns-in-Following-clause-moves : goal.returns-in-Following-clause-moves
returns-in-Following-clause-moves g c = c.following.ensures.moves

pub returns-in-Following-clause-answers : goal.returns-in-Following-clause-answers
returns-in-Following-clause-answers g c =
    subst (λ a. Answers stop_of (λ rules steps. axis_of rules steps c.args.n a c.args.test.now) (g.V.NodeView.sees c.args.view.now)
    (g.V.NodeView.sees c.following.new.view) c.following.result) (sym c.in-Following.is) c.following.ensures.answers

pub preceding-requires : goal.preceding-requires
preceding-requires g c = c.requires

pub returns-in-Preceding-clause-moves : goal.returns-in-Preceding-clause-moves
returns-in-Preceding-clause-moves g c = c.preceding.ensures.moves

pub returns-in-Preceding-clause-answers : goal.returns-in-Preceding-clause-answers
returns-in-Preceding-clause-answers g c =
    subst (λ a. Answers stop_of (λ rules steps. axis_of rules steps c.args.n a c.args.test.now) (g.V.NodeView.sees c.args.view.now)
    (g.V.NodeView.sees c.preceding.new.view) c.preceding.result) (sym c.in-Preceding.is) c.preceding.ensures.answers

pub following_siblings-requires : goal.following_siblings-requires
following_siblings-requires g c = c.requires

pub returns-in-FollowingSibling-clause-moves : goal.returns-in-FollowingSibling-clause-moves
returns-in-FollowingSibling-clause-moves g c = c.following_siblings.ensures.moves

pub returns-in-FollowingSibling-clause-answers : goal.returns-in-FollowingSibling-clause-answers
returns-in-FollowingSibling-clause-answers g c =
    subst (λ a. Answers stop_of (λ rules steps. axis_of rules steps c.args.n a c.args.test.now) (g.V.NodeView.sees c.args.view.now)
    (g.V.NodeView.sees c.following_siblings.new.view) c.following_siblings.result) (sym c.in-FollowingSibling.is) c.following_siblings.ensures.answers

pub preceding_siblings-requires : goal.preceding_siblings-requires
preceding_siblings-requires g c = c.requires

pub returns-in-PrecedingSibling-clause-moves : goal.returns-in-PrecedingSibling-clause-moves
returns-in-PrecedingSibling-clause-moves g c = c.preceding_siblings.ensures.moves

pub returns-in-PrecedingSibling-clause-answers : goal.returns-in-PrecedingSibling-clause-answers
returns-in-PrecedingSibling-clause-answers g c =
    subst (λ a. Answers stop_of (λ rules steps. axis_of rules steps c.args.n a c.args.test.now) (g.V.NodeView.sees c.args.view.now)
    (g.V.NodeView.sees c.preceding_siblings.new.view) c.preceding_siblings.result) (sym c.in-PrecedingSibling.is) c.preceding_siblings.ensures.answers

pub attributes-requires : goal.attributes-requires
attributes-requires g c = c.requires

pub returns-in-Attribute-clause-moves : goal.returns-in-Attribute-clause-moves
returns-in-Attribute-clause-moves g c = c.attributes.ensures.moves

pub returns-in-Attribute-clause-answers : goal.returns-in-Attribute-clause-answers
returns-in-Attribute-clause-answers g c =
    subst (λ a. Answers stop_of (λ rules steps. axis_of rules steps c.args.n a c.args.test.now) (g.V.NodeView.sees c.args.view.now)
    (g.V.NodeView.sees c.attributes.new.view) c.attributes.result) (sym c.in-Attribute.is) c.attributes.ensures.answers
