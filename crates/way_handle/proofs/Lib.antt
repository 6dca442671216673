mod LinkLaws
mod GoalLaws
