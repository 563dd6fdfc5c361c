pub mod Below
pub mod CommonSteps
pub mod StepLines
pub mod StepReading
pub mod StepsText
pub mod inner
