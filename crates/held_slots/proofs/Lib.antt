pub mod HoldingLaws
pub mod TruthLaws
pub mod PlanLaws
pub mod HoldSteps
pub mod ReleaseLaws
