pub mod StepLemmas
pub mod StepsLawful
pub mod Lines
pub mod ShortSteps
